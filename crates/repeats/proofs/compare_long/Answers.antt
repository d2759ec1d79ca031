use Rattle.repeats.specs.Steps.{compare_front, compare_there}
use Rattle.repeats.proofs.compare_long.Goals as goal

pub returns-then-is_ne : goal.returns-then-is_ne
returns-then-is_ne c = search compare_front

pub returns : goal.returns
returns c = search compare_there
