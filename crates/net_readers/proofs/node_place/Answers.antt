use Rattle.readers.specs.Places.{node_table}
use Rattle.net_readers.proofs.node_place.Goals as goal

pub returns : goal.returns
returns c = search node_table
