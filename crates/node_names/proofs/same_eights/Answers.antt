use Rattle.node_names.specs.Steps.{head_same, head_differs}
use Rattle.node_names.proofs.same_eights.Goals as goal

pub returns-then-be64 : goal.returns-then-be64
returns-then-be64 c = search head_same

pub returns : goal.returns
returns c = search head_differs
