use Rattle.waits.specs.Waits.{answer}
use Rattle.waits.proofs.answer.Goals as goal

pub returns : goal.returns
unfolding answer
returns c = (cc, cc)
