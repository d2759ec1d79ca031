use Rattle.words.specs.Left.{left}
use Rattle.erase.specs.Ways.{act_acts}
use Rattle.erase.specs.Erase.{act}
use Rattle.erase.proofs.act.Goals as goal

pub returns : goal.returns
returns c = left {x = act _ _ _ _} (search act_acts)
