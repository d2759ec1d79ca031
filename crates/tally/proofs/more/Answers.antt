use Rattle.std.proofs.Common.{arith}
use Rattle.tally.specs.Tally.{more}
use Rattle.words.specs.Choose.{lt_yes, lt_no, eq_yes, eq_no}
use Rattle.tally.proofs.more.Goals as goal

pub returns-then-c-b : goal.returns-then-c-b
unfolding more
returns-then-c-b c = lt_no _ _ _ _ (omega arith) (omega arith)

pub returns-then-c-b-2 : goal.returns-then-c-b-2
unfolding more
returns-then-c-b-2 c = lt_yes _ _ _ _ (omega arith) (eq_yes _ _ _ _ (omega arith) (omega arith))

pub returns : goal.returns
unfolding more
returns c = lt_yes _ _ _ _ (omega arith) (eq_no _ _ _ _ (omega arith) (omega arith))
