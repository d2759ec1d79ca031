use Rattle.orders.specs.Steps.{name_is}
use Rattle.orders.proofs.name_fits.Goals as goal

pub returns : goal.returns
returns c = name_is _ _ _ _ c.be16-m.ensures
