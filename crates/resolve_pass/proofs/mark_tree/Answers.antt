use Rattle.resolve_pass.specs.Ways.{mark_node, mark_one}
use Rattle.resolve_pass.proofs.mark_tree.Goals as goal

pub returns-then-byte-eq0 : goal.returns-then-byte-eq0
returns-then-byte-eq0 c = search mark_one

pub returns-else-byte-eq0 : goal.returns-else-byte-eq0
returns-else-byte-eq0 c = search mark_node
