use Rattle.wire_tables.specs.Tables.{keep}
use Rattle.wire_tables.proofs.keep.Goals as goal

pub returns : goal.returns
unfolding keep
returns c = cc
