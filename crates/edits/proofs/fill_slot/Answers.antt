use Rattle.edits.specs.Edits.{fill}
use Rattle.edits.proofs.fill_slot.Goals as goal

pub returns : goal.returns
unfolding fill
returns c = cc
