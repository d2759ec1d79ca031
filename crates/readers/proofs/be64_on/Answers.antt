use Rattle.readers.specs.Places.{be64_clamped}
use Rattle.readers.proofs.be64_on.Goals as goal

pub returns : goal.returns
returns c = search be64_clamped
