use Rattle.resolve_pass.specs.Ways.{hung_node, hung_wire}
use Rattle.resolve_pass.proofs.hung_tree.Goals as goal

pub returns-then-byte-eq0 : goal.returns-then-byte-eq0
returns-then-byte-eq0 c = search hung_wire

pub returns : goal.returns
returns c = search hung_node
