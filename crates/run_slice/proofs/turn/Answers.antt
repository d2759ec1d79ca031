use Rattle.run_slice.specs.Run.{turn}
use Rattle.run_slice.proofs.turn.Goals as goal

pub returns : goal.returns
unfolding turn
returns c = (cc, cc)
