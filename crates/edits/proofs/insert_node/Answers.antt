use Rattle.words.specs.Left.{left}
use Rattle.edits.specs.Edits.{insert_node}
use Rattle.edits.specs.Ways.{insert_at, insert_refused}
use Rattle.edits.proofs.insert_node.Goals as goal

pub returns-in-At : goal.returns-in-At
returns-in-At c = left {x = insert_node _ _ _ _} (search insert_at)

pub returns-in-Refused : goal.returns-in-Refused
returns-in-Refused c = left {x = insert_node _ _ _ _} (search insert_refused)
