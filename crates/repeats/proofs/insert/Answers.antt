use Rattle.std.proofs.Common.{refl, arith}
use Rattle.repeats.specs.Steps.{insert_there}
use Rattle.words.specs.Choose.{lt_yes, lt_no}
use Rattle.repeats.specs.Repeats as spec
use Rattle.repeats.proofs.insert.Goals as goal

pub returns-then-sorted-m : goal.returns-then-sorted-m
unfolding spec.insert
returns-then-sorted-m c = lt_no _ _ _ _ (omega arith) refl

pub returns-then-m-p : goal.returns-then-m-p
unfolding spec.insert
returns-then-m-p c = lt_yes _ _ _ _ (omega arith) (lt_yes _ _ _ _ (omega arith) refl)

pub returns : goal.returns
returns c = search insert_there
