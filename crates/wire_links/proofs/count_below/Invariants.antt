use Rattle.std.proofs.Common.{◌≡◌, ◌+◌, ◌-◌, ◌≤◌}
use Rattle.wire_blocks.specs.Blocks.{looked}
use Rattle.wire_links.specs.Table.{count_over}
use Rattle.wire_links.proofs.count_below.Given as goal

abbrev pub invariant-loop-w : goal.invariant-loop-w
invariant-loop-w l = (l.n + count_over l.ws (looked 65537 l.ws l.wires l.w) ≡ count_over l.ws (looked 65537 l.ws l.wires 0)) × (l.n ≤ l.w) × (l.n ≤ l.wires)

abbrev pub decreases-loop-w : goal.decreases-loop-w
decreases-loop-w l = l.wires - l.w
