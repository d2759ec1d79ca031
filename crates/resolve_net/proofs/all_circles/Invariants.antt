use Rattle.std.proofs.Common.{◌≡◌, ◌-◌, length}
use Rattle.resolve_net.specs.Renamed.{circles}
use Rattle.wire_blocks.specs.Laws.{wires_from}
use Rattle.resolve_net.proofs.all_circles.Given as goal

abbrev pub invariant-loop-w : goal.invariant-loop-w
invariant-loop-w l = (circles l.s l.ws (wires_from l.w (l.wires - l.w)) l.out l.c ≡ circles l.s l.ws (wires_from 0 l.wires) l.initial.out (record { count = 0; to = l.to })) × (length l.out ≡ length l.initial.out)
