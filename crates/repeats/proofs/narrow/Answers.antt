use Rattle.std.proofs.Common.{arith, refl}
use Rattle.words.specs.Choose.{lt_no}
use Rattle.repeats.specs.Repeats as spec
use Rattle.repeats.specs.Steps.{narrow_less, narrow_rest}
use Rattle.repeats.proofs.narrow.Goals as goal

pub returns-then-hi-lo : goal.returns-then-hi-lo
unfolding spec.narrow
returns-then-hi-lo c = lt_no _ _ _ _ (omega arith) refl

pub returns-then-is_lt : goal.returns-then-is_lt
returns-then-is_lt c = search narrow_less

pub returns-else-is_lt : goal.returns-else-is_lt
returns-else-is_lt c = search narrow_rest
