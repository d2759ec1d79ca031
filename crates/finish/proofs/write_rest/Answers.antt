use Rattle.write_nodes.specs.Wrote.{three}
use Rattle.finish.specs.Ways.{rest_written}
use Rattle.finish.specs.Finish.{write_rest}
use Rattle.finish.proofs.write_rest.Goals as goal

pub returns : goal.returns
returns c = three {x = write_rest _ _ _ _ _} (search rest_written)
