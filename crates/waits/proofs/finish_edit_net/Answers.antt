use Rattle.waits.specs.Ways.{finish_at_zero, finish_above}
use Rattle.waits.proofs.finish_edit_net.Goals as goal

pub returns-then-net_word-eq0 : goal.returns-then-net_word-eq0
returns-then-net_word-eq0 c = search finish_at_zero

pub returns-else-net_word-eq0 : goal.returns-else-net_word-eq0
returns-else-net_word-eq0 c = search finish_above
