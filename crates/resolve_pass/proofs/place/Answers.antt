use Rattle.std.proofs.Common.{arith}
use Rattle.resolve_pass.specs.Pass.{place}
use Rattle.resolve_pass.proofs.place.Goals as goal

pub returns : goal.returns
unfolding place
returns c = omega arith
