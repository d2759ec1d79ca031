use Rattle.std.proofs.Common.{◌-◌, ◌≡◌, length}
use Rattle.flat_nets.specs.Flat.{summed_all, passed_all}
use Rattle.flat_nets.proofs.measure_nets.Given as goal

abbrev pub invariant-loop : goal.invariant-loop
invariant-loop l = (summed_all l.s l.ws l.t (l.n - l.counter) ≡ summed_all l.s l.initial.ws (record { at = l.from; wires = 0; to = l.to }) l.n) × (passed_all l.s l.ws l.t (l.n - l.counter) ≡ passed_all l.s l.initial.ws (record { at = l.from; wires = 0; to = l.to }) l.n) × (length l.ws ≡ length l.initial.ws)
