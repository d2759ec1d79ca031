use Rattle.std.proofs.Common.{arith}
use Rattle.words.specs.Choose.{eq_yes, eq_no}
use Rattle.wire_links.specs.Table.{far}
use Rattle.wire_links.proofs.far.Goals as goal

pub returns-then-p-eq0 : goal.returns-then-p-eq0
unfolding far
returns-then-p-eq0 c = eq_yes _ _ _ _ (omega arith) (cc)

pub returns : goal.returns
unfolding far
returns c = eq_no _ _ _ _ (omega arith) (omega arith)
