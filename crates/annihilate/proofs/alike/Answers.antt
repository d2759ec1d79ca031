use Rattle.annihilate.specs.Annihilate.{alike}
use Rattle.annihilate.proofs.alike.Goals as goal

pub returns : goal.returns
unfolding alike
returns c = cc
