use Rattle.std.proofs.Common.{arith}
use Rattle.wire_blocks.specs.Ways.{row_one, row_marked, row_inside}
use Rattle.wire_blocks.proofs.row_stride.Goals as goal

pub returns-then-get-eq0 : goal.returns-then-get-eq0
returns-then-get-eq0 c = (search row_one, omega arith, omega arith)

pub returns-else-get-eq0 : goal.returns-else-get-eq0
returns-else-get-eq0 c = (search row_marked, omega arith, omega arith)

pub returns-else-w-eq0 : goal.returns-else-w-eq0
returns-else-w-eq0 c = (search row_inside, omega arith, omega arith)
