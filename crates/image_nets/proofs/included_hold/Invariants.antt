use Rattle.std.proofs.Common.{◌-◌, ◌≡◌}
use Rattle.image_nets.specs.Nets.{included_hold}
use Rattle.image_nets.proofs.included_hold.Given as goal

abbrev pub invariant-loop-i : goal.invariant-loop-i
invariant-loop-i l = included_hold l.ws l.file l.at l.t (l.count - l.i) ≡ included_hold l.ws l.file l.from 1 l.count
