use Rattle.wiring_tree.specs.Wiring.{wired_past, wired_links, wired_free}
use Rattle.wiring_tree.proofs.net_wired.Goals as goal

pub returns-then-s-at : goal.returns-then-s-at
returns-then-s-at c = search wired_past

pub returns-then-twice_trees : goal.returns-then-twice_trees
returns-then-twice_trees c = search wired_links

pub returns : goal.returns
returns c = search wired_free
