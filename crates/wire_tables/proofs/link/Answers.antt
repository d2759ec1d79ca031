use Rattle.wire_tables.specs.Tables.{link}
use Rattle.wire_tables.proofs.link.Goals as goal

pub returns : goal.returns
unfolding link
returns c = cc
