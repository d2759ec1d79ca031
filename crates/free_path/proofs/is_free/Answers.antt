use Rattle.free_path.specs.Steps.{free_short, free_same}
use Rattle.free_path.proofs.is_free.Goals as goal

pub returns-then-n-ne15 : goal.returns-then-n-ne15
returns-then-n-ne15 c = search free_short

pub returns : goal.returns
returns c = search free_same
