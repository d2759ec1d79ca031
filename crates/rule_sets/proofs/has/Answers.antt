use Rattle.std.proofs.Common.{refl, arith}
use Rattle.words.specs.Choose.{lt_yes, lt_no}
use Rattle.rule_sets.specs.Sets as spec
use Rattle.rule_sets.proofs.has.Goals as goal

pub returns-then-r-lt64 : goal.returns-then-r-lt64
unfolding spec.has
returns-then-r-lt64 c = lt_yes _ _ _ _ (omega arith) refl

pub returns : goal.returns
unfolding spec.has
returns c = lt_no _ _ _ _ (omega arith) refl
