use Rattle.listing.specs.Nets.{head_written}
use Rattle.listing.proofs.net_head.Goals as goal

pub returns : goal.returns
returns c = search head_written
