use Rattle.words.specs.Left.{left}
use Rattle.load.specs.Load.{add_flat_net_words}
use Rattle.load.specs.Ways.{net_small, net_large}
use Rattle.load.proofs.add_flat_net.Goals as goal

pub returns-then-net_wires-le1024 : goal.returns-then-net_wires-le1024
returns-then-net_wires-le1024 c = left {x = add_flat_net_words _ _ _} (search net_small)

pub returns : goal.returns
returns c = left {x = add_flat_net_words _ _ _} (search net_large)
