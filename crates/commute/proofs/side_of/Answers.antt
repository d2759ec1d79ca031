use Rattle.commute.specs.Ways.{side_made}
use Rattle.commute.proofs.side_of.Goals as goal

pub returns : goal.returns
returns c = search side_made
