use Rattle.readers.specs.Places.{counted_is}
use Rattle.readers.proofs.counted_end.Goals as goal

pub returns : goal.returns
returns c = search counted_is
