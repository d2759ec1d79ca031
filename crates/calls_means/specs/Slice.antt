-- `slice-is-engine`: a slice on words and bytes that carry a run answers what level Engine's does, and leaves both as they were, zeros, or
-- the run that was gone on with.
use Rattle.std.specs.Prelude.{ℕ, ◌≡◌, refl, Bool, true, false, ◌||◌, List, length, eqb, leb}
use Rattle.std.proofs.Common.{sym, ap, ◌∙◌, subst, arith, eqb-true}
use Rattle.std.proofs.Math.Option.{Option, none, some}
use Rattle.net_file.specs.Lists.{Result, ok, refuse, need}
use Rattle.net_file.specs.Values.{FlatNet, File, no_limit}
use Rattle.net_file.specs.Read.{limit_of}
use Rattle.net_file.specs.Checks.{flat, limit_fits, write}
use Rattle.definitions.specs.Lists.{◌>>=◌}
use Rattle.definitions.specs.State.{Pools, Engine}
use Rattle.definitions.specs.Run.{run_slice}
use Rattle.definitions.specs.Calls
use Rattle.definitions.specs.Calls.{Held, Workspace, unchanged, zeros, image, Outcome, resume}
use Rattle.reached_laws.specs.Accepted.{slice_reached}
use Rattle.words.specs.Choose.{pick, if_eq}
use Rattle.run_slice.specs.Run.{slice as run_slice_words}
use Rattle.lent.specs.Lent.{Lent, zero_words, zero_bytes}
use Rattle.lent.specs.declared.Pools as Lent
use Rattle.lent.specs.declared.Answer.TheVariants.{Done, Refused}
use Rattle.slicing.specs.Slicing.{steps_fit, run_held, slice_image, slice}
use Rattle.slicing.specs.Ways.{held_ran, held_refused, image_runs, image_steps, slice_room}
use Rattle.run_means.specs.Run.{Most}
use Rattle.head_kept.proofs.Run.{slice_head}
use Rattle.visiting_means.specs.Slice as Visiting
use Rattle.visiting_means.specs.Slice.{SliceEnds}
use Rattle.start_means.specs.Start.{pools_of}
use Rattle.optimize_means.specs.Room.{space}
use Rattle.calls_means.specs.Carries.{Carries, Outcomes, carries_room, carries_length, carries_bytes, carries_resumable, carries_resumes}

-- a slice's answer is its number of steps
abbrev pub steps_told : ℕ → ℕ
steps_told n = n

pub pick_or : (t u : Bool) → pick t true u ≡ (t || u)
unfolding pick
pick_or true u = refl
pick_or false u = refl

-- 4, on the words and at level Engine
pub steps_are : (n : ℕ) → steps_fit n ≡ limit_fits n
unfolding steps_fit limit_fits if_eq
steps_are n = pick_or (eqb n no_limit) (leb n 16777216)

-- the number as a limit
pub most_of : (n : ℕ) → Most (limit_of n) n 0
unfolding limit_of
most_of n = go (eqb n no_limit) refl
  where
    go : (t : Bool) → eqb n no_limit ≡ t → Most (elim t as (λ _. Option ℕ) [ true ↦ none | false ↦ some n ]) n 0
    go true e = eqb-true n no_limit e
    go false e = omega arith

-- what is left of a run, by what level Engine's slice of it gives
abbrev pub Runs : File FlatNet → Result (Engine × ℕ) → Outcome ℕ
Runs f r = elim r as (λ _. Outcome ℕ) [ refuse k ↦ (refuse k, zeros (length (write flat f))) | ok x ↦ (ok x.1, image (record { file = f; engine = x.0 })) ]

-- and by whether there is one
abbrev pub Slices : ℕ → Result Held → Outcome ℕ
Slices n r = elim r as (λ _. Outcome ℕ) [ refuse k ↦ (refuse k, unchanged) | ok h ↦ Runs h.file (run_slice (limit_of n) h.engine) ]

-- a workspace that goes on with a run
pub sliced : (n : ℕ) (w : Workspace) (p : Pools) (h : Held) → resume w p ≡ ok h → Calls.slice w p n ≡ Slices n (need (limit_fits n) 4 (ok h))
unfolding Calls.slice
sliced n w p h e = ap {A = Result Held} (λ r. Slices n (r >>= λ g. need (limit_fits n) 4 (ok g))) e

module _ (q : Lent.Pools) (ws bs : List ℕ) (h : Held) (c : Carries q ws bs h) (n : ℕ) where
  -- the words after a slice carry the run that was gone on with
  pub ran_carries : (x : Engine × ℕ) → run_slice (limit_of n) h.engine ≡ ok x → SliceEnds c.s h.file (run_slice_words ws c.s n) (ok x)
      → Carries q (run_slice_words ws c.s n).ws bs (record { file = h.file; engine = x.0 })
  ran_carries x i t = record {
    s = c.s;
    are = c.are;
    reads = c.reads;
    kept = c.kept;
    fit = c.fit;
    reached = slice_reached (pools_of q) h.file (limit_of n) x.0 x.1 c.reached i;
    holds = t.1;
    mark = slice_head ws c.s n 0 (omega arith) ∙ c.mark;
    long = slice_head ws c.s n 4 (omega arith) ∙ c.long;
  }
