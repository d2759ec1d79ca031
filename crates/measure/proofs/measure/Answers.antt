use Rattle.measure.specs.Measure.{measure}
use Rattle.measure.proofs.measure.Goals as goal

pub returns : goal.returns
unfolding measure
returns c = cc
