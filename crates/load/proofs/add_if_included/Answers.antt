use Rattle.words.specs.Left.{left}
use Rattle.load.specs.Load.{add_if_included}
use Rattle.load.specs.Ways.{net_included, net_out_lem}
use Rattle.load.proofs.add_if_included.Goals as goal

pub returns-then-net_included : goal.returns-then-net_included
returns-then-net_included c = left {x = add_if_included _ _ _} (search net_included)

pub returns : goal.returns
returns c = left {x = add_if_included _ _ _} (search net_out_lem)
