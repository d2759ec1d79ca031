use Rattle.std.proofs.Common.{◌-◌, ◌≡◌, length}
use Rattle.finish.specs.Finish.{write_nets}
use Rattle.finish.proofs.write_nets.Given as goal

abbrev pub invariant-loop-i : goal.invariant-loop-i
invariant-loop-i l = (write_nets l.ws l.file l.out l.place (l.count - l.i) l.at ≡ write_nets l.initial.ws l.file l.initial.out l.initial.place l.count l.initial.at) × (length l.ws ≡ length l.initial.ws) × (length l.out ≡ length l.initial.out)
