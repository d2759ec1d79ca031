use Rattle.std.proofs.Common.{arith}
use Rattle.measure.specs.Measure.{node_size}
use Rattle.measure.proofs.node_size.Goals as goal

pub returns : goal.returns
unfolding node_size
returns c = omega arith
