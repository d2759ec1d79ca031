use Rattle.std.proofs.Common.{arith}
use Rattle.head.specs.Head.{limit_head}
use Rattle.words.specs.Choose.{lt_yes, lt_no, eq_yes, eq_no}
use Rattle.head.proofs.limit.Goals as goal

pub returns-then-l-eq4294967295 : goal.returns-then-l-eq4294967295
unfolding limit_head
returns-then-l-eq4294967295 c = eq_yes _ _ _ _ (omega arith) (cc)

pub returns-then-l-gt16777216 : goal.returns-then-l-gt16777216
unfolding limit_head
returns-then-l-gt16777216 c = eq_no _ _ _ _ (omega arith) (lt_yes _ _ _ _ (omega arith) (cc))

pub returns : goal.returns
unfolding limit_head
returns c = eq_no _ _ _ _ (omega arith) (lt_no _ _ _ _ (omega arith) (cc))
