use Rattle.std.proofs.Common.{arith}
use Rattle.words.specs.Choose.{lt_yes, lt_no}
use Rattle.commute.specs.Commute.{aux_count}
use Rattle.commute.proofs.aux_count.Goals as goal

pub returns-then-k-gt15 : goal.returns-then-k-gt15
unfolding aux_count
returns-then-k-gt15 c = lt_yes _ _ _ _ (omega arith) (cc)

pub returns : goal.returns
unfolding aux_count
returns c = lt_no _ _ _ _ (omega arith) (cc)
