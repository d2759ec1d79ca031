use Rattle.resolve_net.specs.Ways.{below_few, below_left, below_wires}
use Rattle.resolve_net.proofs.left_below.Goals as goal

pub returns-then-wires-n : goal.returns-then-wires-n
returns-then-wires-n c = search below_few

pub returns-then-t-wires : goal.returns-then-t-wires
returns-then-t-wires c = search below_left

pub returns : goal.returns
returns c = search below_wires
