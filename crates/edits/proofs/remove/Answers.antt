use Rattle.edits.specs.Ways.{remove_dirty, remove_clean}
use Rattle.edits.proofs.remove.Goals as goal

pub returns-then-dirty-eq1 : goal.returns-then-dirty-eq1
returns-then-dirty-eq1 c = search remove_dirty

pub returns-else-dirty-eq1 : goal.returns-else-dirty-eq1
returns-else-dirty-eq1 c = search remove_clean
