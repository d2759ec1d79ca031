use Rattle.readers.specs.Places.{nets_after}
use Rattle.readers.proofs.net_count_at.Goals as goal

pub returns : goal.returns
returns c = search nets_after
