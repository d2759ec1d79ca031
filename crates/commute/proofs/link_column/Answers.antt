use Rattle.std.proofs.Common.{arith, rules}
use native.Mathlib.Nat.{sub-zero}
use Rattle.commute.specs.Ways.{column_more, column_done}
use Rattle.commute.proofs.link_column.Goals as goal

pub loop-i-init : goal.loop-i-init
loop-i-init c = (rw sub-zero, search rules)

pub loop-i-preserved : goal.loop-i-preserved
loop-i-preserved c = (search column_more, omega arith)

pub returns : goal.returns
returns c = search column_done
