use Rattle.std.proofs.Common.{refl, arith}
use Rattle.words.specs.Choose.{lt_yes, lt_no}
use Rattle.repeats.specs.Repeats as spec
use Rattle.repeats.proofs.differ.Goals as goal

pub returns-then-n-gt1024 : goal.returns-then-n-gt1024
unfolding spec.differ
returns-then-n-gt1024 c = lt_yes _ _ _ _ (omega arith) refl

pub returns-then-n-gt64 : goal.returns-then-n-gt64
unfolding spec.differ
returns-then-n-gt64 c = lt_no _ _ _ _ (omega arith) (lt_yes _ _ _ _ (omega arith) (cc))

pub returns : goal.returns
unfolding spec.differ
returns c = lt_no _ _ _ _ (omega arith) (lt_no _ _ _ _ (omega arith) (cc))
