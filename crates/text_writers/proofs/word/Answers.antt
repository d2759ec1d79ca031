use Rattle.std.proofs.Common.{arith, ◌≡◌}
use Rattle.text_writers.specs.Wrote.{Still, still_all, word_more, word_done}
use Rattle.text_writers.proofs.word.Goals as goal

pub loop-i-init : goal.loop-i-init
loop-i-init c = still_all (omega arith) (omega arith)

pub loop-i-preserved : goal.loop-i-preserved
loop-i-preserved c = search word_more

pub returns : goal.returns
returns c = search word_done
