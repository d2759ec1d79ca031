use Rattle.std.proofs.Common.{arith}
use Rattle.words.specs.Choose.{eq_yes, eq_no}
use Rattle.slicing.specs.Slicing.{steps_fit}
use Rattle.slicing.proofs.steps_fit.Goals as goal

pub returns-then-n-eq4294967295 : goal.returns-then-n-eq4294967295
unfolding steps_fit
returns-then-n-eq4294967295 c = eq_yes _ _ _ _ (omega arith) (cc)

pub returns : goal.returns
unfolding steps_fit
returns c = eq_no _ _ _ _ (omega arith) (cc)
