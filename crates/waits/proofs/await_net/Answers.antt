use Rattle.words.specs.Left.{left}
use Rattle.waits.specs.Ways.{await_ready, await_full, await_waiting}
use Rattle.waits.specs.Waits.{await_net_words}
use Rattle.waits.proofs.await_net.Goals as goal

pub returns-then-net_word-eq0 : goal.returns-then-net_word-eq0
returns-then-net_word-eq0 c = left {x = await_net_words _ _ _} (search await_ready)

pub returns-then-c-eq0 : goal.returns-then-c-eq0
returns-then-c-eq0 c = left {x = await_net_words _ _ _} (search await_full)

pub returns : goal.returns
returns c = left {x = await_net_words _ _ _} (search await_waiting)
