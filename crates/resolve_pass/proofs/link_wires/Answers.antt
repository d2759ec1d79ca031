use Rattle.resolve_pass.specs.Ways.{link_node, link_other, link_both}
use Rattle.resolve_pass.proofs.link_wires.Goals as goal

pub returns-then-byte-eq0-2 : goal.returns-then-byte-eq0-2
returns-then-byte-eq0-2 c = search link_both

pub returns-else-byte-eq0-2 : goal.returns-else-byte-eq0-2
returns-else-byte-eq0-2 c = search link_other

pub returns-else-byte-eq0 : goal.returns-else-byte-eq0
returns-else-byte-eq0 c = search link_node
