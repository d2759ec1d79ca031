use Rattle.listing.specs.Nets.{free_written}
use Rattle.listing.proofs.net_free.Goals as goal

pub returns : goal.returns
returns c = search free_written
