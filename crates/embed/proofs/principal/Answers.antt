use Rattle.std.proofs.Common.{arith}
use Rattle.words.specs.Choose.{eq_yes, eq_no, lt_yes, lt_no}
use Rattle.embed.specs.Embed.{principal}
use Rattle.embed.proofs.principal.Goals as goal

pub returns-then-up-lt-NEW : goal.returns-then-up-lt-NEW
unfolding principal
returns-then-up-lt-NEW c = lt_yes _ _ _ _ (omega arith) (cc)

pub returns : goal.returns
unfolding principal
returns c = lt_no _ _ _ _ (omega arith) (cc)
