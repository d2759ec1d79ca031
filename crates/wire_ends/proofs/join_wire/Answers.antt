use Rattle.wire_ends.specs.WireEnds.{joined, join_wire}
use Rattle.wire_ends.specs.Ways.{wire_opens, wire_joins}
use Rattle.wire_ends.proofs.join_wire.Goals as goal

pub returns-then-first-eq0 : goal.returns-then-first-eq0
returns-then-first-eq0 c = joined {x = join_wire _ _ _ _} (search wire_opens)

pub returns : goal.returns
returns c = joined {x = join_wire _ _ _ _} (search wire_joins)
