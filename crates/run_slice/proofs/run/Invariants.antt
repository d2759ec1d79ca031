use Rattle.std.proofs.Common.{◌-◌, ◌≡◌, length}
use Rattle.words.specs.Left.{left}
use Rattle.run_slice.specs.Ways.{run_more, run_rests, run_refused, run_out}
use Rattle.run_slice.specs.Run as Spec
use Rattle.run_slice.proofs.run.Given as goal

abbrev pub invariant-loop : goal.invariant-loop
invariant-loop l = (Spec.run l.ws l.file l.sets l.most l.steps (l.fuel - l.counter) ≡ Spec.run l.initial.ws l.file l.sets l.most 0 l.fuel) × (length l.ws ≡ length l.initial.ws)
