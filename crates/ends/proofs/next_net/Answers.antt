use Rattle.std.proofs.Common.{arith, refl}
use Rattle.words.specs.Choose.{lt_yes, lt_no}
use Rattle.ends.specs.Ends.{next_net}
use Rattle.ends.proofs.next_net.Goals as goal

pub returns-then-left-gt1 : goal.returns-then-left-gt1
unfolding next_net
returns-then-left-gt1 c = lt_yes _ _ _ _ (omega arith) (cc)

pub returns : goal.returns
unfolding next_net
returns c = lt_no _ _ _ _ (omega arith) refl
