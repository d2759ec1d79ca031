use Rattle.readers.specs.Places.{be16_clamped}
use Rattle.readers.proofs.net_count.Goals as goal

pub returns : goal.returns
returns c = search be16_clamped
