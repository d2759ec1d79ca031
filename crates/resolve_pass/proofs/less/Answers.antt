use Rattle.std.proofs.Common.{arith}
use Rattle.resolve_pass.specs.Pass.{less}
use Rattle.resolve_pass.proofs.less.Goals as goal

pub returns : goal.returns
unfolding less
returns c = omega arith
