use Rattle.wiring.specs.Steps.{net_unlike, net_free, net_nodes_lem}
use Rattle.wiring.proofs.net_wired.Goals as goal

pub returns-then-twice_free : goal.returns-then-twice_free
returns-then-twice_free c = search net_nodes_lem

pub returns-else-twice_free : goal.returns-else-twice_free
returns-else-twice_free c = search net_free

pub returns-else-alike_pairs : goal.returns-else-alike_pairs
returns-else-alike_pairs c = search net_unlike
