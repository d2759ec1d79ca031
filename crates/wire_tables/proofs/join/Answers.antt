use Rattle.wire_tables.specs.Ways.{joined_same, joined_ends}
use Rattle.wire_tables.proofs.join.Goals as goal

pub returns-then-x-y : goal.returns-then-x-y
returns-then-x-y c = search joined_same

pub returns : goal.returns
returns c = search joined_ends
