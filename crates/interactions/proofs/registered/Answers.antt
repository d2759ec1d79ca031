use Rattle.interactions.specs.Ways.{registered_first, registered_not}
use Rattle.interactions.proofs.registered.Goals as goal

pub returns-then-has : goal.returns-then-has
returns-then-has c = search registered_first

pub returns-else-has : goal.returns-else-has
returns-else-has c = search registered_not
