use Rattle.std.proofs.Common.{arith}
use Rattle.pair_writers.specs.Pairs.{pair_used, pair_kept}
use Rattle.pair_writers.proofs.pair.Goals as goal

pub returns-then-occurs : goal.returns-then-occurs
returns-then-occurs c = pair_used _ _ _ _ _ c.be16-a.result _ _ c.be16-a.ensures c.occurs.ensures c.if-occurs.true (omega arith) (omega arith)

pub returns : goal.returns
returns c = search pair_kept
