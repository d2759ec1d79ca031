use Rattle.readers.specs.Places.{be16_clamped}
use Rattle.readers.proofs.be16_on.Goals as goal

pub returns : goal.returns
returns c = search be16_clamped
