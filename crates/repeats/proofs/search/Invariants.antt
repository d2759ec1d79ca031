use Rattle.std.proofs.Common.{◌-◌, ◌≡◌}
use Rattle.repeats.specs.Repeats as spec
use Rattle.repeats.proofs.search.Given as goal

abbrev pub invariant-loop : goal.invariant-loop
invariant-loop l = spec.narrowed l.s l.sorted l.at l.n l.w (11 - l.counter) ≡ spec.narrowed l.s l.sorted l.at l.n (record { lo = 0; hi = l.m }) 11
