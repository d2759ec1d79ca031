use Rattle.listing.specs.Laws.{ports_written}
use Rattle.listing.proofs.node_ports.Goals as goal

pub returns : goal.returns
returns c = search ports_written
