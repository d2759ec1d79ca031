use Rattle.listing.specs.Nets.{net_written}
use Rattle.listing.proofs.net.Goals as goal

pub returns : goal.returns
returns c = search net_written
