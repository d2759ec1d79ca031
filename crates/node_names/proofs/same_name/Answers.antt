use Rattle.std.proofs.Common.{arith, refl}
use Rattle.words.specs.Choose.{eq_yes, eq_no}
use Rattle.node_names.specs.Names as spec
use Rattle.node_names.proofs.same_name.Goals as goal

pub returns-then-x-y : goal.returns-then-x-y
unfolding spec.same_name_words
returns-then-x-y c = eq_yes _ _ _ _ (omega arith) refl

pub returns-then-x-eq0 : goal.returns-then-x-eq0
unfolding spec.same_name_words
returns-then-x-eq0 c = eq_no _ _ _ _ (omega arith) (eq_yes _ _ _ _ (omega arith) refl)

pub returns-then-y-eq0 : goal.returns-then-y-eq0
unfolding spec.same_name_words
returns-then-y-eq0 c = eq_no _ _ _ _ (omega arith) (eq_no _ _ _ _ (omega arith) (eq_yes _ _ _ _ (omega arith) refl))

pub returns : goal.returns
unfolding spec.same_name_words
returns c = eq_no _ _ _ _ (omega arith) (eq_no _ _ _ _ (omega arith) (eq_no _ _ _ _ (omega arith) (cc)))
