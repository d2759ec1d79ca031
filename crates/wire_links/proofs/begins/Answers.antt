use Rattle.std.proofs.Common.{arith}
use Rattle.words.specs.Choose.{lt_yes, lt_no}
use Rattle.wire_links.specs.Table.{begins}
use Rattle.wire_links.proofs.begins.Goals as goal

pub returns-then-a-get : goal.returns-then-a-get
unfolding begins
returns-then-a-get c = (lt_yes _ _ _ _ (omega arith) (cc), omega arith)

pub returns : goal.returns
unfolding begins
returns c = (lt_no _ _ _ _ (omega arith) (cc), omega arith)
