-- Calls in any order, with any pools: words and bytes that stand for a workspace which holds a run, or none, answer a slice and a finish as it
-- does, and what a call leaves stands for what it leaves there.
use Rattle.std.specs.Prelude.{ℕ, ◌<◌, ◌≡◌, refl, Bool, true, false, ◌&&◌, List, length, eqb}
use Rattle.std.proofs.Common.{sym, ap, ◌∙◌, subst, eqb-true}
use Rattle.std.proofs.Math.Option.{Option, none, some}
use Rattle.list_laws.specs.Tests.{both}
use Rattle.definitions.specs.State.{Pools}
use Rattle.definitions.specs.Calls
use Rattle.definitions.specs.Calls.{Held, Left, unchanged, zeros, image, same_pools, after}
use Rattle.image.specs.Image.{resumable}
use Rattle.lent.specs.declared.Pools as Lent
use Rattle.slicing.specs.Slicing.{slice}
use Rattle.finishing.specs.Finishing.{finish}
use Rattle.start_means.specs.Start.{pools_of}
use Rattle.optimize_means.specs.Room.{space}
use Rattle.calls_means.specs.Carries.{Carries, Leaves, Outcomes, of_pools}
use Rattle.calls_means.specs.Slice.{steps_told}
use Rattle.calls_means.specs.Finish.{Finishes, finish_is_engine}
use Rattle.calls_means.specs.Absent.{slice_refused, finish_refused, zeros_absent, others_absent, none_resumes, others_resume}

-- words and bytes as what a workspace holds: an image in no pools, or a run in its own
abbrev pub Stands : List ℕ → List ℕ → Option Held → Type 0
Stands ws bs none = (q : Lent.Pools) → resumable q.nodes q.entries q.waits ws bs ≡ false
Stands ws bs (some h) = (q : Lent.Pools) × Carries q ws bs h

-- what a call leaves stands for what it leaves at level Engine
pub leaves_stand : (q : Lent.Pools) (ws bs w b : List ℕ) (held : Option Held) (l : Left) → Stands ws bs held → Leaves q ws bs w b l
    → Stands w b (after (space ws bs held) l).held
unfolding after
leaves_stand q ws bs w b held unchanged s t =
    subst (λ (y : List ℕ). Stands w y held) (sym t.1) (subst (λ (x : List ℕ). Stands x bs held) (sym t.0) s)
leaves_stand q ws bs w b held (zeros n) s t =
    λ p. subst (λ (x : List ℕ). resumable p.nodes p.entries p.waits x b ≡ false) (sym t.1) (zeros_absent q t.0 b p.nodes p.entries p.waits)
leaves_stand q ws bs w b held (image h) s t = (q, t.0)

-- pools that do not differ are the same
pub pools_same : (p q : Lent.Pools) → same_pools (pools_of p) (pools_of q) ≡ true → q ≡ p
unfolding same_pools
pools_same p q h =
    let b = both (eqb p.nodes q.nodes && eqb p.entries q.entries) (eqb p.waits q.waits) h in
    let a = both (eqb p.nodes q.nodes) (eqb p.entries q.entries) b.0 in
    let n : p.nodes ≡ q.nodes = eqb-true p.nodes q.nodes a.0 in
    let e : p.entries ≡ q.entries = eqb-true p.entries q.entries a.1 in
    let w : p.waits ≡ q.waits = eqb-true p.waits q.waits b.1 in
    λ i. record { nodes = sym n i; entries = sym e i; waits = sym w i }

module _ (q : Lent.Pools) (ws bs : List ℕ) where
  -- a fact of every call: where the words are no image for it, and where they carry a run in its pools
  pub by_pools : (h : Held) → Stands ws bs (some h) → (P : Type 0)
      → (resumable q.nodes q.entries q.waits ws bs ≡ false → same_pools (pools_of q) h.engine.pools ≡ false → P) → (Carries q ws bs h → P) → P
  by_pools h s P other own = go (same_pools (pools_of q) (pools_of s.0)) refl
    where
      go : (t : Bool) → same_pools (pools_of q) (pools_of s.0) ≡ t → P
      go true e = own (subst (λ (p : Lent.Pools). Carries p ws bs h) (pools_same q s.0 e) s.1)
      go false e = other (others_absent s.0 q ws bs h s.1 e) (ap (same_pools (pools_of q)) (of_pools s.0 ws bs h s.1) ∙ e)

  -- a finish
  pub finish_stands : (out : List ℕ) → length out < 18446744073709551616 → (held : Option Held) → Stands ws bs held
      → Finishes q ws bs out (finish q ws bs out) (Calls.finish (space ws bs held) (pools_of q) (length out))
  finish_stands out size none s = finish_refused q ws bs (space ws bs none) (s q) (none_resumes q ws bs) out
  finish_stands out size (some h) s =
      by_pools h s (Finishes q ws bs out (finish q ws bs out) (Calls.finish (space ws bs (some h)) (pools_of q) (length out)))
      (λ a d. finish_refused q ws bs (space ws bs (some h)) a (others_resume q ws bs h d) out) (λ c. finish_is_engine q ws bs h c out size)
