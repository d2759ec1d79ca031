use Rattle.node_names.specs.Steps.{fours_differ, next_differ, threes_tell}
use Rattle.node_names.proofs.same_eleven.Goals as goal

pub returns-then-p-q : goal.returns-then-p-q
returns-then-p-q c = search fours_differ

pub returns-then-m-n : goal.returns-then-m-n
returns-then-m-n c = search next_differ

pub returns : goal.returns
returns c = search threes_tell
