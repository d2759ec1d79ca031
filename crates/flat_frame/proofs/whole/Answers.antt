use Rattle.flat_frame.specs.Nets.{whole_is, whole_left}
use Rattle.flat_frame.proofs.whole.Goals as goal

pub returns : goal.returns
returns g c = (search whole_is, search whole_left)
