use Rattle.std.proofs.Common.{arith}
use Rattle.words.specs.Choose.{eq_yes, eq_no, lt_yes, lt_no}
use Rattle.embed.specs.Embed.{counter}
use Rattle.embed.proofs.counter.Goals as goal

pub returns-then-up-lt-NEW : goal.returns-then-up-lt-NEW
unfolding counter
returns-then-up-lt-NEW c = lt_yes _ _ _ _ (omega arith) (cc)

pub returns : goal.returns
unfolding counter
returns c = lt_no _ _ _ _ (omega arith) (cc)
