use Rattle.std.proofs.Common.{arith}
use Rattle.words.specs.Choose.{lt_yes, lt_no}
use Rattle.layout.specs.Layout.{net_by_name}
use Rattle.layout.proofs.net_by_name.Goals as goal

pub returns-then-name-lt1024 : goal.returns-then-name-lt1024
unfolding net_by_name
returns-then-name-lt1024 c = lt_yes _ _ _ _ (omega arith) (cc)

pub returns-else-name-lt1024 : goal.returns-else-name-lt1024
unfolding net_by_name
returns-else-name-lt1024 c = lt_no _ _ _ _ (omega arith) (cc)
