use Rattle.wiring_tree.specs.Wiring.{tally_wire, tally_node}
use Rattle.wiring_tree.proofs.tally_tree.Goals as goal

pub returns-then-byte-eq0 : goal.returns-then-byte-eq0
returns-then-byte-eq0 c = search tally_wire

pub returns-else-byte-eq0 : goal.returns-else-byte-eq0
returns-else-byte-eq0 c = search tally_node
