use Rattle.std.proofs.Common.{refl, arith}
use Rattle.rule_names.specs.RuleNames.{lists_of}
use Rattle.words.specs.Choose.{eq_yes, eq_no, lt_yes, lt_no}
use Rattle.rule_names.proofs.lists_of.Goals as goal

pub returns-then-tag-lt2 : goal.returns-then-tag-lt2
unfolding lists_of
returns-then-tag-lt2 c = lt_yes _ _ _ _ (omega arith) refl

pub returns-then-tag-eq2 : goal.returns-then-tag-eq2
unfolding lists_of
returns-then-tag-eq2 c = lt_no _ _ _ _ (omega arith) (eq_yes _ _ _ _ (omega arith) refl)

pub returns-then-tag-lt5 : goal.returns-then-tag-lt5
unfolding lists_of
returns-then-tag-lt5 c = lt_no _ _ _ _ (omega arith) (eq_no _ _ _ _ (omega arith) (lt_yes _ _ _ _ (omega arith) refl))

pub returns-then-tag-eq5 : goal.returns-then-tag-eq5
unfolding lists_of
returns-then-tag-eq5 c = lt_no _ _ _ _ (omega arith) (eq_no _ _ _ _ (omega arith) (lt_no _ _ _ _ (omega arith) (eq_yes _ _ _ _ (omega arith) refl)))

pub returns : goal.returns
unfolding lists_of
returns c = lt_no _ _ _ _ (omega arith) (eq_no _ _ _ _ (omega arith) (lt_no _ _ _ _ (omega arith) (eq_no _ _ _ _ (omega arith) refl)))
