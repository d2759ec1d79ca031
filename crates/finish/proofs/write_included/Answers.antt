use Rattle.write_nodes.specs.Wrote.{three}
use Rattle.finish.specs.Ways.{included_written}
use Rattle.finish.specs.Finish.{write_included}
use Rattle.finish.proofs.write_included.Goals as goal

pub returns : goal.returns
returns c = three {x = write_included _ _ _ _ _ _} (search included_written)
