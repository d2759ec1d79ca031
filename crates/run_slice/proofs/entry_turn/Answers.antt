use Rattle.words.specs.Left.{left}
use Rattle.run_slice.specs.Ways.{entry_live, entry_stale}
use Rattle.run_slice.specs.Run.{entry_turn}
use Rattle.run_slice.proofs.entry_turn.Goals as goal

pub returns-then-node_word-eq1 : goal.returns-then-node_word-eq1
returns-then-node_word-eq1 c = left {x = entry_turn _ _ _ _} (search entry_live)

pub returns : goal.returns
returns c = left {x = entry_turn _ _ _ _} (search entry_stale)
