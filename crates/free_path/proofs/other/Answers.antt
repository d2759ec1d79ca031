use Rattle.free_path.specs.Steps.{other_free, other_not}
use Rattle.free_path.proofs.other.Goals as goal

pub returns-then-is_free : goal.returns-then-is_free
returns-then-is_free c = search other_free

pub returns : goal.returns
returns c = search other_not
