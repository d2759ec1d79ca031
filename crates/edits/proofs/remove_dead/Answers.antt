use Rattle.edits.specs.Edits.{remove_dead}
use Rattle.edits.proofs.remove_dead.Goals as goal

pub returns : goal.returns
unfolding remove_dead
returns c = cc
