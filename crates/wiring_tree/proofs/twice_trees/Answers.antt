use Rattle.scan_tree.specs.Count.{runs_less}
use Rattle.wiring_tree.specs.Wiring.{decides_begin, decides_more, decides_no, decides_done}
use Rattle.wiring_tree.proofs.twice_trees.Goals as goal

pub loop-c-init : goal.loop-c-init
loop-c-init c = search decides_begin

pub loop-c-smaller : goal.loop-c-smaller
loop-c-smaller c = search runs_less

pub loop-c-preserved : goal.loop-c-preserved
loop-c-preserved c = search decides_more

pub returns-then-not-twice_tree : goal.returns-then-not-twice_tree
returns-then-not-twice_tree c = search decides_no

pub returns : goal.returns
returns c = search decides_done
