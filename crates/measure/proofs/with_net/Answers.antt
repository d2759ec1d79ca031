use Rattle.measure.specs.Ways.{net_included, net_other}
use Rattle.measure.proofs.with_net.Goals as goal

pub returns-then-net_included : goal.returns-then-net_included
returns-then-net_included c = search net_included

pub returns : goal.returns
returns c = search net_other
