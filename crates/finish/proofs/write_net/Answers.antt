use Rattle.write_nodes.specs.Wrote.{three}
use Rattle.finish.specs.Ways.{net_kept, net_anew}
use Rattle.finish.specs.Finish.{write_net}
use Rattle.finish.proofs.write_net.Goals as goal

pub returns-then-t-eq0 : goal.returns-then-t-eq0
returns-then-t-eq0 c = three {x = write_net _ _ _ _ _ _} (search net_kept)

pub returns : goal.returns
returns c = three {x = write_net _ _ _ _ _ _} (search net_anew)
