use Rattle.measure.specs.Measure.{plus}
use Rattle.measure.proofs.plus.Goals as goal

pub returns : goal.returns
unfolding plus
returns c = cc
