use Rattle.readers.specs.Places.{be32_clamped}
use Rattle.readers.proofs.be32_on.Goals as goal

pub returns : goal.returns
returns c = search be32_clamped
