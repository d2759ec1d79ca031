use Rattle.std.proofs.Common.{arith}
use Rattle.words.specs.Choose.{eq_yes, eq_no}
use Rattle.embed_nets.specs.Nets.{hung}
use Rattle.embed_nets.proofs.hang.Goals as goal

pub returns-then-byte-eq0 : goal.returns-then-byte-eq0
unfolding hung
returns-then-byte-eq0 c = eq_yes _ _ _ _ (omega arith) (cc)

pub returns-else-byte-eq0 : goal.returns-else-byte-eq0
unfolding hung
returns-else-byte-eq0 c = eq_no _ _ _ _ (omega arith) (cc)
