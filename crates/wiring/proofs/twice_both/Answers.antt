use Rattle.wiring.specs.Steps.{node_once, node_twice}
use Rattle.wiring.proofs.twice_both.Goals as goal

pub returns-then-twice_run : goal.returns-then-twice_run
returns-then-twice_run c = search node_twice

pub returns : goal.returns
returns c = search node_once
