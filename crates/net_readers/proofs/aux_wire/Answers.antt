use Rattle.readers.specs.Places.{be16_after}
use Rattle.net_readers.proofs.aux_wire.Goals as goal

pub returns : goal.returns
returns c = search be16_after
