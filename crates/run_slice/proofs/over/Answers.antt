use Rattle.std.proofs.Common.{refl, arith}
use Rattle.words.specs.Choose.{lt_yes, lt_no}
use Rattle.run_slice.specs.Run.{over}
use Rattle.run_slice.proofs.over.Goals as goal

pub returns-then-most-s : goal.returns-then-most-s
unfolding over
returns-then-most-s c = lt_no _ _ _ _ (omega arith) refl

pub returns : goal.returns
unfolding over
returns c = lt_yes _ _ _ _ (omega arith) (cc)
