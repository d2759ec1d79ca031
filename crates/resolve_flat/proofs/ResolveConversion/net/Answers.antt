use Rattle.resolve_flat.specs.Nets.{net_marked, net_written}
use Rattle.resolve_flat.proofs.ResolveConversion.net.Goals as goal

pub returns : goal.returns
returns c = (search net_written, search net_marked)
