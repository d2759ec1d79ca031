use Rattle.readers.specs.Places.{net_table}
use Rattle.readers.proofs.net_place.Goals as goal

pub returns : goal.returns
returns c = search net_table
