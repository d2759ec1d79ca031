use Rattle.std.proofs.Common.{arith}
use Rattle.wire_links.specs.Ways.{count_more, count_done}
use Rattle.wire_links.proofs.count_below.Goals as goal

pub loop-w-preserved : goal.loop-w-preserved
loop-w-preserved c = (search count_more, omega arith, omega arith)

pub returns : goal.returns
returns c = (search count_done, omega arith)
