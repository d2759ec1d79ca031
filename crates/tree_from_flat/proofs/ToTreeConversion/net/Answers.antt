use Rattle.tree_from_flat.specs.Nets.{net_marked, net_written}
use Rattle.tree_from_flat.proofs.ToTreeConversion.net.Goals as goal

pub returns : goal.returns
returns c = (search net_written, search net_marked)
