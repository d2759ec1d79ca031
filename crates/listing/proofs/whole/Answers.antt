use Rattle.listing.specs.Nets.{whole_written}
use Rattle.listing.proofs.whole.Goals as goal

pub returns : goal.returns
returns c = search whole_written
