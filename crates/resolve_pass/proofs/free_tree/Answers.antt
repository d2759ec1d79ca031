use Rattle.resolve_pass.specs.Ways.{free_node, free_wire}
use Rattle.resolve_pass.proofs.free_tree.Goals as goal

pub returns-then-byte-eq0 : goal.returns-then-byte-eq0
returns-then-byte-eq0 c = search free_wire

pub returns-else-byte-eq0 : goal.returns-else-byte-eq0
returns-else-byte-eq0 c = search free_node
