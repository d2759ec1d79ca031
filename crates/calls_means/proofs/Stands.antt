-- Calls in any order, with any pools: words and bytes that stand for a workspace which holds a run, or none, answer a slice and a finish as it
use Rattle.std.specs.Prelude.{ℕ, ◌<◌, ◌≡◌, refl, Bool, true, false, ◌&&◌, List, length, eqb}
use Rattle.std.proofs.Common.{sym, ap, ◌∙◌, subst, eqb-true}
use Rattle.std.proofs.Math.Option.{Option, none, some}
use Rattle.list_laws.specs.Tests.{both}
use Rattle.definitions.specs.State.{Pools}
use Rattle.definitions.specs.Calls
use Rattle.definitions.specs.Calls.{Held, Left, unchanged, zeros, image, same_pools, after}
use Rattle.image.specs.Image.{resumable}
use Rattle.lent.specs.declared.Pools as Lent
use Rattle.slicing.specs.Slicing.{slice}
use Rattle.finishing.specs.Finishing.{finish}
use Rattle.start_means.specs.Start.{pools_of}
use Rattle.optimize_means.specs.Room.{space}
use Rattle.calls_means.specs.Carries.{Carries, Leaves, Outcomes, of_pools}
use Rattle.calls_means.specs.Slice.{steps_told}
use Rattle.calls_means.proofs.Slice.{slice_is_engine}
use Rattle.calls_means.specs.Finish.{Finishes, finish_is_engine}
use Rattle.calls_means.specs.Absent.{slice_refused, finish_refused, zeros_absent, others_absent, none_resumes, others_resume}
use Rattle.calls_means.specs.Stands.{Stands, by_pools}

module _ (q : Lent.Pools) (ws bs : List ℕ) where
  -- a slice
  pub slice_stands : (n : ℕ) (held : Option Held) → Stands ws bs held → Outcomes steps_told q ws bs (slice q n ws bs) (Calls.slice (space ws bs held) (pools_of q) n)
  slice_stands n none s = slice_refused q ws bs (space ws bs none) (s q) (none_resumes q ws bs) n
  slice_stands n (some h) s =
      (by_pools q ws bs) h s (Outcomes steps_told q ws bs (slice q n ws bs) (Calls.slice (space ws bs (some h)) (pools_of q) n))
      (λ a d. slice_refused q ws bs (space ws bs (some h)) a (others_resume q ws bs h d) n) (λ c. slice_is_engine q ws bs h c n)
