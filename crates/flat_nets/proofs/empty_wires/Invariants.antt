use Rattle.std.proofs.Common.{◌≡◌, length, ◌-◌, ◌≤◌}
use Rattle.wire_blocks.specs.Blocks.{looked}
use Rattle.wire_links.specs.Table.{extent}
use Rattle.flat_nets.specs.Flat.{empty_over}
use Rattle.flat_nets.proofs.empty_wires.Given as goal

abbrev pub invariant-loop-w : goal.invariant-loop-w
invariant-loop-w l = (empty_over (looked 65537 l.ws l.e l.w) l.ws ≡ empty_over (looked 65537 l.initial.ws l.e 0) l.initial.ws) × (l.e ≡ extent l.initial.ws 65536) × (l.e ≤ 65536) × (length l.ws ≡ length l.initial.ws)

abbrev pub decreases-loop-w : goal.decreases-loop-w
decreases-loop-w l = l.e - l.w
