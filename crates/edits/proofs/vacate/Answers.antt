use Rattle.edits.specs.Edits.{vacate}
use Rattle.edits.proofs.vacate.Goals as goal

pub returns : goal.returns
unfolding vacate
returns c = cc
