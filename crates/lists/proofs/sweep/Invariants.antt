use Rattle.std.proofs.Common.{◌-◌, ◌≡◌, length}
use Rattle.lists.specs.Lists.{sweep, sweep_from}
use Rattle.lists.proofs.sweep.Given as goal

abbrev pub invariant-loop : goal.invariant-loop
invariant-loop l = (sweep_from l.ws l.t.0 l.w (l.k - l.counter) ≡ sweep l.initial.ws l.t.0) × (length l.ws ≡ length l.initial.ws)
