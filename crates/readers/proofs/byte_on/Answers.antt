use Rattle.readers.specs.Places.{byte_clamped}
use Rattle.readers.proofs.byte_on.Goals as goal

pub returns : goal.returns
returns c = search byte_clamped
