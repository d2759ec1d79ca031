use Rattle.ends.specs.Ends.{net_none, net_is}
use Rattle.ends.proofs.flat_net_end.Goals as goal

pub returns-then-n-q-lt2 : goal.returns-then-n-q-lt2
returns-then-n-q-lt2 c = search net_none

pub returns : goal.returns
returns c = search net_is
