use Rattle.flat_writers.specs.Flat.{list_is}
use Rattle.flat_writers.proofs.list.Goals as goal

pub returns : goal.returns
returns c = search list_is
