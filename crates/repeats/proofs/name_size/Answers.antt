use Rattle.repeats.specs.Steps.{name_short, name_past}
use Rattle.repeats.proofs.name_size.Goals as goal

pub returns-then-m-lt11 : goal.returns-then-m-lt11
returns-then-m-lt11 c = search name_short

pub returns-then-m-at : goal.returns-then-m-at
returns-then-m-at c = search name_past
