use Rattle.listing.specs.Laws.{name_written}
use Rattle.listing.proofs.node_name.Goals as goal

pub returns : goal.returns
returns c = search name_written
