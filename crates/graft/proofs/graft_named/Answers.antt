use Rattle.words.specs.Left.{left}
use Rattle.graft.specs.Ways.{named_ready, named_waits, named_full}
use Rattle.graft.specs.Graft.{graft_named_words}
use Rattle.graft.proofs.graft_named.Goals as goal

pub returns-in-Ready : goal.returns-in-Ready
returns-in-Ready c = left {x = graft_named_words _ _ _ _} (search named_ready)

pub returns-in-Waiting : goal.returns-in-Waiting
returns-in-Waiting c = left {x = graft_named_words _ _ _ _} (search named_waits)

pub returns-in-Full : goal.returns-in-Full
returns-in-Full c = left {x = graft_named_words _ _ _ _} (search named_full)
