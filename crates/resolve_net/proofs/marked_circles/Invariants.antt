use Rattle.std.proofs.Common.{◌≡◌, ◌-◌, length}
use Rattle.resolve_net.specs.Renamed.{circles}
use Rattle.wire_blocks.specs.Blocks.{looked}
use Rattle.resolve_net.proofs.marked_circles.Given as goal

abbrev pub invariant-loop-w : goal.invariant-loop-w
invariant-loop-w l = (circles l.s l.ws (looked 0 l.bs l.wires l.w) l.out l.c ≡ circles l.s l.ws (looked 0 l.bs l.wires 0) l.initial.out (record { count = 0; to = l.to })) × (length l.out ≡ length l.initial.out)

abbrev pub decreases-loop-w : goal.decreases-loop-w
decreases-loop-w l = l.wires - l.w
