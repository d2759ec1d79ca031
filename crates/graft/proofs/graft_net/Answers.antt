use Rattle.words.specs.Left.{left}
use Rattle.graft.specs.Ways.{graft_refused, graft_joined}
use Rattle.graft.specs.Graft.{graft_net_words}
use Rattle.graft.proofs.graft_net.Goals as goal

pub returns-then-r-gt0 : goal.returns-then-r-gt0
returns-then-r-gt0 c = left {x = graft_net_words _ _ _ _} (search graft_refused)

pub returns : goal.returns
returns c = left {x = graft_net_words _ _ _ _} (search graft_joined)
