use Rattle.words.specs.Left.{left}
use Rattle.graft.specs.Ways.{ready_spent, ready_grafts}
use Rattle.graft.specs.Graft.{graft_ready}
use Rattle.graft.proofs.graft_ready.Goals as goal

pub returns-then-spent : goal.returns-then-spent
returns-then-spent c = left {x = graft_ready _ _ _ _} (search ready_spent)

pub returns : goal.returns
returns c = left {x = graft_ready _ _ _ _} (search ready_grafts)
