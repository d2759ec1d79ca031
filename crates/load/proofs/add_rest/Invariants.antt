use Rattle.std.proofs.Common.{◌-◌, ◌≡◌, length}
use Rattle.load.specs.Load.{add_nodes}
use Rattle.load.proofs.add_rest.Given as goal

abbrev pub invariant-loop : goal.invariant-loop
invariant-loop l = (add_nodes l.ws l.wires l.file l.t.0 l.at (l.count - l.counter) ≡ add_nodes l.initial.ws l.initial.wires l.file l.t.0 l.from l.count) × (length l.ws ≡ length l.initial.ws) × (length l.wires ≡ length l.initial.wires)
