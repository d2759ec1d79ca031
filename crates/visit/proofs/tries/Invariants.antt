use Rattle.std.proofs.Common.{◌-◌, ◌≡◌, length, rules}
use Rattle.words.specs.Left.{left}
use Rattle.visit.specs.Ways.{tries_none, tries_more, tries_acted, tries_refused, tries_done}
use Rattle.visit.specs.Visits as Spec
use Rattle.visit.proofs.tries.Given as goal

abbrev pub invariant-loop-r : goal.invariant-loop-r
invariant-loop-r l = (Spec.tries l.ws l.file l.sets l.v l.set l.r (64 - l.r) ≡ Spec.tries l.initial.ws l.file l.sets l.v l.rules 0 64) × (length l.ws ≡ length l.initial.ws)
