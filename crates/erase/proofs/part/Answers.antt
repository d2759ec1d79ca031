use Rattle.erase.specs.Erase.{part}
use Rattle.erase.proofs.part.Goals as goal

pub returns : goal.returns
unfolding part
returns c = cc
