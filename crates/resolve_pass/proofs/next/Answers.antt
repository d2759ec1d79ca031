use Rattle.std.proofs.Common.{arith}
use Rattle.resolve_pass.specs.Pass.{next}
use Rattle.resolve_pass.proofs.next.Goals as goal

pub returns : goal.returns
unfolding next
returns c = omega arith
