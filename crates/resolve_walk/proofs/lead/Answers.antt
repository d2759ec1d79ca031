use Rattle.resolve_walk.specs.Ways.{lead_past, lead_node, lead_wire}
use Rattle.resolve_walk.specs.Walk.{lead}
use Rattle.words.specs.Left.{left}
use Rattle.resolve_walk.proofs.lead.Goals as goal

pub returns-then-s-at : goal.returns-then-s-at
returns-then-s-at c = left {x = lead _ _ _} (search lead_past)

pub returns-then-byte-eq0 : goal.returns-then-byte-eq0
returns-then-byte-eq0 c = left {x = lead _ _ _} (search lead_wire)

pub returns : goal.returns
returns c = left {x = lead _ _ _} (search lead_node)
