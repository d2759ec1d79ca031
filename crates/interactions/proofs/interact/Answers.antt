use Rattle.words.specs.Left.{left}
use Rattle.interactions.specs.Ways.{interact_annihilates, interact_differs, interact_pair}
use Rattle.interactions.specs.Interactions as Spec
use Rattle.interactions.proofs.interact.Goals as goal

pub returns-then-v : goal.returns-then-v
returns-then-v c = left {x = Spec.interact _ _ _ _ _} (search interact_annihilates)

pub returns-then-byte-eq2 : goal.returns-then-byte-eq2
returns-then-byte-eq2 c = left {x = Spec.interact _ _ _ _ _} (search interact_differs)

pub returns : goal.returns
returns c = left {x = Spec.interact _ _ _ _ _} (search interact_pair)
