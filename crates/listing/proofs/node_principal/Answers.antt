use Rattle.listing.specs.Laws.{principal_written}
use Rattle.listing.proofs.node_principal.Goals as goal

pub returns : goal.returns
returns c = search principal_written
