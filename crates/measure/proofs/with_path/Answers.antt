use Rattle.measure.specs.Ways.{path_more, path_same}
use Rattle.measure.proofs.with_path.Goals as goal

pub returns-then-path_joins : goal.returns-then-path_joins
returns-then-path_joins c = search path_more

pub returns : goal.returns
returns c = search path_same
