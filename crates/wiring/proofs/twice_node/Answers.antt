use Rattle.wiring.specs.Steps.{there_once, there_twice}
use Rattle.wiring.proofs.twice_node.Goals as goal

pub returns-then-not-twice : goal.returns-then-not-twice
returns-then-not-twice c = search there_once

pub returns : goal.returns
returns c = search there_twice
