use Rattle.std.proofs.Common.{arith}
use Rattle.words.specs.Choose.{lt_yes, lt_no}
use Rattle.wire_links.specs.Table.{pair_place, pair_bytes}
use Rattle.wire_links.proofs.put_pair.Goals as goal

pub returns-then-b-a : goal.returns-then-b-a
unfolding pair_place pair_bytes
returns-then-b-a c = (lt_no _ _ _ _ (omega arith) (cc), lt_no _ _ _ _ (omega arith) (cc))

pub returns : goal.returns
unfolding pair_place pair_bytes
returns c = (lt_yes _ _ _ _ (omega arith) (cc), lt_yes _ _ _ _ (omega arith) (cc))
