use Rattle.write_nodes.specs.Wrote.{three}
use Rattle.finish.specs.Ways.{path_joined, path_there}
use Rattle.finish.specs.Finish.{write}
use Rattle.finish.proofs.write.Goals as goal

pub returns-then-path_joins : goal.returns-then-path_joins
returns-then-path_joins c = three {x = write _ _ _ _} (search path_joined)

pub returns : goal.returns
returns c = three {x = write _ _ _ _} (search path_there)
