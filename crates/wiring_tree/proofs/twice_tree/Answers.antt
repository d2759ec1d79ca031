use Rattle.wiring.specs.Steps.{twice_is}
use Rattle.wiring_tree.specs.Wiring.{twice_wire, twice_node}
use Rattle.wiring_tree.proofs.twice_tree.Goals as goal

pub returns-then-byte-ne0 : goal.returns-then-byte-ne0
returns-then-byte-ne0 c = search twice_node

pub returns : goal.returns
returns c = search (twice_wire, twice_is)
