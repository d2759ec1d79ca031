use Rattle.measure.specs.Ways.{slot_vacant, slot_free, slot_counts}
use Rattle.measure.proofs.with_slot.Goals as goal

pub returns-then-node_word-eq0 : goal.returns-then-node_word-eq0
returns-then-node_word-eq0 c = search slot_vacant

pub returns-then-name-eq0 : goal.returns-then-name-eq0
returns-then-name-eq0 c = search slot_free

pub returns : goal.returns
returns c = search slot_counts
