use Rattle.waits.specs.Ways.{wake_own, wake_other}
use Rattle.waits.proofs.wake.Goals as goal

pub returns-then-node_word-t : goal.returns-then-node_word-t
returns-then-node_word-t c = search wake_own

pub returns-else-node_word-t : goal.returns-else-node_word-t
returns-else-node_word-t c = search wake_other
