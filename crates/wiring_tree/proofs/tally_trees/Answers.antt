use Rattle.std.proofs.Common.{arith}
use Rattle.scan_tree.specs.Count.{runs_less, runs_past, runs_end}
use Rattle.wiring_tree.specs.Wiring.{tallies_begin, tallies_more, tallies_done}
use Rattle.wiring_tree.proofs.tally_trees.Goals as goal

pub loop-c-init : goal.loop-c-init
loop-c-init c = search tallies_begin

pub loop-c-smaller : goal.loop-c-smaller
loop-c-smaller c = search runs_less

pub loop-c-preserved : goal.loop-c-preserved
loop-c-preserved c = search tallies_more

pub returns-then-s-end : goal.returns-then-s-end
returns-then-s-end c = (search tallies_done, search runs_past, omega arith)

pub returns : goal.returns
returns c = (search tallies_done, search runs_end, omega arith)
