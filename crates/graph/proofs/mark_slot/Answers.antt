use Rattle.graph.specs.Ways.{mark_clean, mark_marked}
use Rattle.graph.proofs.mark_slot.Goals as goal

pub returns-then-node_word-eq0 : goal.returns-then-node_word-eq0
returns-then-node_word-eq0 c = search mark_clean

pub returns-else-node_word-eq0 : goal.returns-else-node_word-eq0
returns-else-node_word-eq0 c = search mark_marked
