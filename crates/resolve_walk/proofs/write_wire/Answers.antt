use Rattle.resolve_walk.specs.Walk.{write_wire}
use Rattle.resolve_walk.proofs.write_wire.Goals as goal

pub returns : goal.returns
unfolding write_wire
returns c = (cc, cc)
