use Rattle.edits.specs.Edits.{loose}
use Rattle.edits.proofs.loose.Goals as goal

pub returns : goal.returns
unfolding loose
returns c = cc
