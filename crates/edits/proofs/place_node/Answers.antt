use Rattle.words.specs.Left.{left}
use Rattle.edits.specs.Edits.{place_node}
use Rattle.edits.specs.Ways.{place_full, place_at, place_none}
use Rattle.edits.proofs.place_node.Goals as goal

pub returns-then-c-eq0 : goal.returns-then-c-eq0
returns-then-c-eq0 c = left {x = place_node _ _ _ _} (search place_full)

pub returns-then-push_node : goal.returns-then-push_node
returns-then-push_node c = left {x = place_node _ _ _ _} (search place_at)

pub returns : goal.returns
returns c = left {x = place_node _ _ _ _} (search place_none)
