use Rattle.readers.specs.Places.{be16_clamped}
use Rattle.net_readers.proofs.node_count.Goals as goal

pub returns : goal.returns
returns c = search be16_clamped
