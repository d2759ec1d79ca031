use Rattle.ends.specs.Whole.{whole_small, whole_past, whole_name, whole_wires, whole_there}
use Rattle.ends.proofs.whole_node.Goals as goal

pub returns-then-n-lt14 : goal.returns-then-n-lt14
returns-then-n-lt14 c = search whole_small

pub returns-then-n-at : goal.returns-then-n-at
returns-then-n-at c = search whole_past

pub returns-then-n-e : goal.returns-then-n-e
returns-then-n-e c = search whole_name

pub returns-then-n-e-2 : goal.returns-then-n-e-2
returns-then-n-e-2 c = search whole_wires

pub returns : goal.returns
returns c = search whole_there
