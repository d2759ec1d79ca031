use Rattle.std.proofs.Common.{arith}
use Rattle.pruning.specs.Ways.{net_kept, net_left}
use Rattle.pruning.proofs.write_net.Goals as goal

pub returns-then-marked : goal.returns-then-marked
returns-then-marked c = search net_kept

pub returns : goal.returns
returns c = net_left _ _ _ _ _ _ _ _ c.be16.ensures c.marked.ensures c.if-marked.false (omega arith) (omega arith)
