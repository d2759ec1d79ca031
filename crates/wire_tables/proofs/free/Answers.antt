use Rattle.wire_tables.specs.Tables.{freed}
use Rattle.wire_tables.proofs.free.Goals as goal

pub returns : goal.returns
unfolding freed
returns c = cc
