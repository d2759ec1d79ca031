use Rattle.std.proofs.Common.{arith}
use Rattle.words.specs.Choose.{eq_yes, eq_no}
use Rattle.lists.specs.Lists.{put_after}
use Rattle.lists.proofs.put_after.Goals as goal

pub returns-then-p-eq0 : goal.returns-then-p-eq0
unfolding put_after
returns-then-p-eq0 c = eq_yes _ _ _ _ (omega arith) (cc)

pub returns-else-p-eq0 : goal.returns-else-p-eq0
unfolding put_after
returns-else-p-eq0 c = eq_no _ _ _ _ (omega arith) (cc)
