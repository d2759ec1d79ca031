use Rattle.std.proofs.Common.{arith}
use Rattle.words.specs.Choose.{eq_yes, eq_no}
use Rattle.graph.specs.Graph.{grown}
use Rattle.graph.proofs.grown.Goals as goal

pub returns-then-capacity-eq0 : goal.returns-then-capacity-eq0
unfolding grown
returns-then-capacity-eq0 c = eq_yes _ _ _ _ (omega arith) (eq_yes _ _ _ _ (omega arith) (cc))

pub returns-then-length-capacity : goal.returns-then-length-capacity
unfolding grown
returns-then-length-capacity c = eq_yes _ _ _ _ (omega arith) (eq_no _ _ _ _ (omega arith) (cc))

pub returns : goal.returns
unfolding grown
returns c = eq_no _ _ _ _ (omega arith) (cc)
