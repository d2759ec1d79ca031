use Rattle.words.specs.Left.{left}
use Rattle.load.specs.Load.{add_sized}
use Rattle.load.specs.Ways.{net_sized}
use Rattle.load.proofs.add_sized.Goals as goal

pub returns : goal.returns
returns g c = left {x = add_sized _ _ _ _ _} (search net_sized)
