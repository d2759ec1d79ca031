use Rattle.readers.specs.Places.{be16_clamped}
use Rattle.net_readers.proofs.node_principal.Goals as goal

pub returns : goal.returns
returns c = search be16_clamped
