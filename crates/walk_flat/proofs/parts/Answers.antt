use Rattle.walk_flat.specs.Flat.{parts_on}
use Rattle.walk_flat.proofs.parts.Goals as goal

pub returns : goal.returns
returns c = let free = c.in_ok-e.was in let pairs = c.in_ok-q.was in search parts_on
