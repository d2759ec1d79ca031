use Rattle.resolve_walk.specs.Penned.{penned}
use Rattle.resolve_tree.specs.Words.{delivered, deliver_full, deliver_done}
use Rattle.resolve_tree.proofs.deliver.Goals as goal

pub returns-then-out-length : goal.returns-then-out-length
returns-then-out-length c = penned {x = delivered _ _ _ _} (search deliver_full)

pub returns : goal.returns
returns c = penned {x = delivered _ _ _ _} (search deliver_done)
