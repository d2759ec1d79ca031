use Rattle.std.proofs.Common.{◌≡◌, length, ◌-◌}
use Rattle.wire_blocks.specs.Blocks.{looked}
use Rattle.wire_links.specs.Table.{place_over, bytes_over}
use Rattle.wire_links.proofs.put_below.Given as goal

abbrev pub invariant-loop-a : goal.invariant-loop-a
invariant-loop-a l = (place_over l.ws (looked 65537 l.ws l.wires l.a) l.to ≡ place_over l.ws (looked 65537 l.ws l.wires 0) l.at) × (bytes_over l.ws (looked 65537 l.ws l.wires l.a) l.to l.out ≡ bytes_over l.ws (looked 65537 l.ws l.wires 0) l.at l.initial.out) × (length l.out ≡ length l.initial.out)

abbrev pub decreases-loop-a : goal.decreases-loop-a
decreases-loop-a l = l.wires - l.a
