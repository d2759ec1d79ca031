use Rattle.std.proofs.Common.{◌-◌, ◌≡◌, length}
use Rattle.load.specs.Load.{add_flat_nets}
use Rattle.load.proofs.add_flat_nets.Given as goal

abbrev pub invariant-loop-i : goal.invariant-loop-i
invariant-loop-i l = (add_flat_nets l.ws l.file l.at (l.count - l.i) ≡ add_flat_nets l.initial.ws l.file l.from l.count) × (length l.ws ≡ length l.initial.ws)
