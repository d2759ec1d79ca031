use Rattle.finish.specs.Finish.{write_head}
use Rattle.finish.proofs.write_head.Goals as goal

pub returns : goal.returns
unfolding write_head
returns c = cc
