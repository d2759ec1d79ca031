use Rattle.std.proofs.Common.{◌-◌, length, ◌≡◌}
use Rattle.image_chains.specs.Chains as Spec
use Rattle.image_chains.proofs.free_hold.Given as goal

abbrev pub invariant-loop : goal.invariant-loop
invariant-loop l = (Spec.free_hold l.pool l.ws l.marks l.c (l.k - l.counter) ≡ Spec.free_hold l.pool l.ws l.initial.marks l.first l.k) × (length l.marks ≡ length l.initial.marks)
