use Rattle.tally.specs.Tally.{bump}
use Rattle.tally.proofs.bump.Goals as goal

pub returns : goal.returns
unfolding bump
returns c = cc
