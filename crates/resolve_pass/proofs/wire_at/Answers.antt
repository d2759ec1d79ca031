use Rattle.resolve_pass.specs.Pass.{wire_at}
use Rattle.resolve_pass.proofs.wire_at.Goals as goal

pub returns : goal.returns
unfolding wire_at
returns c = cc
