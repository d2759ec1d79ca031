use Rattle.resolve_walk.specs.Walk.{write_head}
use Rattle.resolve_walk.proofs.write_head.Goals as goal

pub returns : goal.returns
unfolding write_head
returns c = (cc, cc)
