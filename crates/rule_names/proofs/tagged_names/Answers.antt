use Rattle.std.proofs.Common.{arith}
use Rattle.rule_names.specs.RuleNames.{tagged_names}
use Rattle.words.specs.Choose.{eq_yes, eq_no}
use Rattle.rule_names.proofs.tagged_names.Goals as goal

pub returns-then-tag-eq1 : goal.returns-then-tag-eq1
unfolding tagged_names
returns-then-tag-eq1 c = eq_yes _ _ _ _ (omega arith) (cc)

pub returns : goal.returns
unfolding tagged_names
returns c = eq_no _ _ _ _ (omega arith) (cc)
