use Rattle.write_nodes.specs.Wrote.{three}
use Rattle.write_nodes.specs.Ways.{entry_live, entry_stale}
use Rattle.write_nodes.specs.Nodes.{write_entry}
use Rattle.write_nodes.proofs.write_entry.Goals as goal

pub returns-then-node_word-page : goal.returns-then-node_word-page
returns-then-node_word-page c = three {x = write_entry _ _ _ _ _ _} (search entry_live)

pub returns : goal.returns
returns c = three {x = write_entry _ _ _ _ _ _} (search entry_stale)
