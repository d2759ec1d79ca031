use Rattle.std.proofs.Common.{arith}
use Rattle.wire_blocks.specs.Ways.{block_none, block_marked, block_inside}
use Rattle.wire_blocks.proofs.stride.Goals as goal

pub returns-then-get-eq0 : goal.returns-then-get-eq0
returns-then-get-eq0 c = (search block_none, omega arith, omega arith)

pub returns-else-get-eq0 : goal.returns-else-get-eq0
returns-else-get-eq0 c = (search block_marked, omega arith, omega arith)

pub returns-else-w-eq0 : goal.returns-else-w-eq0
returns-else-w-eq0 c = (search block_inside, omega arith, omega arith)
