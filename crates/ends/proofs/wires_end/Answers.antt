use Rattle.ends.specs.Ends.{wires_small, wires_none}
use Rattle.ends.proofs.wires_end.Goals as goal

pub returns-then-n-le2 : goal.returns-then-n-le2
returns-then-n-le2 c = search wires_small

pub returns-then-n-e : goal.returns-then-n-e
returns-then-n-e c = search wires_none
