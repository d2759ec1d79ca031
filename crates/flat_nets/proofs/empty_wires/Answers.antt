use Rattle.std.proofs.Common.{arith, rules}
use Rattle.flat_nets.specs.Ways.{extent_low, empty_more, empty_done}
use Rattle.flat_nets.proofs.empty_wires.Goals as goal

pub loop-w-init : goal.loop-w-init
loop-w-init c = (cc, cc, search extent_low, search rules)

pub loop-w-preserved : goal.loop-w-preserved
loop-w-preserved c = (search empty_more, cc, omega arith, omega arith)

pub returns : goal.returns
returns c = (cc, omega arith, search empty_done)
