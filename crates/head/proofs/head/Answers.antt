use Rattle.std.proofs.Common.{arith}
use Rattle.head.specs.Head.{head_of}
use Rattle.words.specs.Choose.{lt_yes, lt_no, eq_yes, eq_no}
use Rattle.head.proofs.head.Goals as goal

pub returns-then-n-lt5 : goal.returns-then-n-lt5
unfolding head_of
returns-then-n-lt5 c = lt_yes _ _ _ _ (omega arith) (cc)

pub returns-then-be32-n : goal.returns-then-be32-n
unfolding head_of
returns-then-be32-n c = lt_no _ _ _ _ (omega arith) (eq_no _ _ _ _ (omega arith) (cc))

pub returns-then-byte-version : goal.returns-then-byte-version
unfolding head_of
returns-then-byte-version c = lt_no _ _ _ _ (omega arith) (eq_yes _ _ _ _ (omega arith) (eq_no _ _ _ _ (omega arith) (cc)))

pub returns-then-n-lt9 : goal.returns-then-n-lt9
unfolding head_of
returns-then-n-lt9 c = lt_no _ _ _ _ (omega arith) (eq_yes _ _ _ _ (omega arith) (eq_yes _ _ _ _ (omega arith) (lt_yes _ _ _ _ (omega arith) (cc))))

pub returns : goal.returns
unfolding head_of
returns c = lt_no _ _ _ _ (omega arith) (eq_yes _ _ _ _ (omega arith) (eq_yes _ _ _ _ (omega arith) (lt_no _ _ _ _ (omega arith) (cc))))
