-- `slices-are-engine`: slices one after another on words and bytes that carry a run, up to the first that is refused, answer what level
-- Engine's do, and so what one slice of their sum answers.
use Rattle.std.specs.Prelude.{ℕ, ◌+◌, ◌≡◌, Bool}
use Rattle.std.proofs.Math.Path.{refl, ap, subst}
use Rattle.std.proofs.Common.{sym, ◌∙◌}
use Rattle.std.proofs.Math.Bool.{true, false}
use Rattle.std.proofs.Math.Option.{Option, none, some}
use mathlib.Core.List.{List, [], ◌∷◌, map}
use Rattle.std.proofs.Math.ListN.{length}
use Rattle.list_laws.specs.Tests.{both, both_are}
use Rattle.net_file.specs.Lists.{Result, ok, refuse, need, all}
use Rattle.net_file.specs.Values.{FlatNet, File}
use Rattle.net_file.specs.Read.{limit_of}
use Rattle.net_file.specs.Write.{limit_number}
use Rattle.net_file.specs.Checks.{flat, limit_fits, write}
use Rattle.definitions.specs.Lists.{◌>>=◌}
use Rattle.definitions.specs.State.{Pools, Engine}
use Rattle.definitions.specs.Run.{run_slice}
use Rattle.definitions.specs.Calls.{Held, Workspace, Outcome, same_pools, resume, after}
use Rattle.slice_laws.specs.Sums.{total}
use Rattle.reached_laws.specs.Calls.{onward, slice_calls, resumes, SumFits}
use Rattle.reached_laws.proofs.Accepted.{slice_calls_compose}
use Rattle.lent.specs.Lent.{Lent, zero_words, zero_bytes}
use Rattle.lent.specs.declared.Pools as Lent
use Rattle.lent.specs.declared.Answer.{Answer}
use Rattle.lent.specs.declared.Answer.TheVariants.{Done, Refused}
use Rattle.finishing.specs.Finishing.{on_answer}
use Rattle.slicing.specs.Slicing.{slice}
use Rattle.start_means.specs.Start.{pools_of}
use Rattle.optimize_means.specs.Room.{space}
use Rattle.calls_means.specs.Carries.{Carries, answer_by, Outcomes, bytes_same, carries_pools, carries_resumes}
use Rattle.calls_means.specs.Slice.{steps_told, Runs, Slices, sliced}

-- k steps more
unfoldable pub add_steps : ℕ → Answer → Answer
add_steps k a = on_answer a (λ j. Done (k + j)) (λ r. Refused r)

-- after a slice the next ones, unless it was refused
unfoldable pub go_on : Lent → (List ℕ → List ℕ → Lent) → Lent
go_on x calls =
    let y = calls x.ws x.bs in
    on_answer x.is (λ k. record { is = add_steps k y.is; ws = y.ws; bs = y.bs }) (λ r. x)

-- slices in order: all their steps, or by what one is refused
unfoldable pub slice_calls_words : Lent.Pools → List ℕ → List ℕ → List ℕ → Lent
slice_calls_words q [] ws bs = record { is = Done 0; ws = ws; bs = bs }
slice_calls_words q (n ∷ ns) ws bs = go_on (slice q n ws bs) (λ w b. slice_calls_words q ns w b)

-- what slices leave where the bytes were bs: a run, or zeros
abbrev pub Keeps : Lent.Pools → List ℕ → Lent → Option Held → Type 0
Keeps q bs x none = (v : List ℕ) × (n : ℕ) × (x.ws ≡ zero_words q v) × (x.bs ≡ zero_bytes n bs)
Keeps q bs x (some h) = Carries q x.ws x.bs h

-- answer and what is left are those of level Engine
abbrev pub Tells : Lent.Pools → List ℕ → Lent → Result ℕ × Workspace → Type 0
Tells q bs x r = (x.is ≡ answer_by steps_told r.0) × Keeps q bs x r.1.held

pub added : (k : ℕ) (a : Answer) (r : Result ℕ) → a ≡ answer_by steps_told r → add_steps k a ≡ answer_by steps_told (r >>= λ j. ok (k + j))
unfolding add_steps on_answer
added k a (ok j) e = rw e refl
added k a (refuse r) e = rw e refl

-- the workspace goes on with another run of the same file
pub resumes_on : (w : Workspace) (p : Pools) (h g : Held) → resume w p ≡ ok h → g.file ≡ h.file → same_pools p g.engine.pools ≡ true
    → resume (record { fits = w.fits; held = some g }) p ≡ ok g
unfolding resume
resumes_on w p h g e f s =
    let r = resumes w p h e in
    let b = both (same_pools p h.engine.pools) (w.fits p (length (write flat h.file))) r.same in
    let t = both_are (same_pools p g.engine.pools) (w.fits p (length (write flat g.file))) s
    (subst (λ (x : File FlatNet). w.fits p (length (write flat x)) ≡ true) (sym f) b.1) in
    rw (r.fit, t) refl

module _ (q : Lent.Pools) where
  -- that slices of these numbers go so
  abbrev pub Onward : List ℕ → Type 0
  Onward ns = (ws bs : List ℕ) (h : Held) → Carries q ws bs h → (w : Workspace) → resume w (pools_of q) ≡ ok h → Tells q bs (slice_calls_words q ns ws bs) (slice_calls w (pools_of q) ns)

  module _ (ns : List ℕ) (next : Onward ns) (ws bs : List ℕ) (h : Held) (c : Carries q ws bs h) (w : Workspace) (e : resume w (pools_of q) ≡ ok h) where
    abbrev pub Goes : Lent → Outcome ℕ → Type 0
    Goes x o = Outcomes steps_told q ws bs x o → Tells q bs (go_on x (λ w' b. slice_calls_words q ns w' b)) (onward w (λ w'. slice_calls w' (pools_of q) ns) o)
