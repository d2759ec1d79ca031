use Rattle.flat_writers.specs.Flat.{wire_is}
use Rattle.flat_writers.proofs.flat_wire.Goals as goal

pub returns : goal.returns
returns c = search wire_is
