use Rattle.std.proofs.Common.{refl, length-set, arith}
use Rattle.commute.specs.Ways.{row_more, row_done}
use Rattle.commute.specs.Commute.{row}
use Rattle.commute.proofs.row.Goals as goal

pub loop-place-init : goal.loop-place-init
unfolding row
loop-place-init c = (cc, refl)

pub loop-place-preserved : goal.loop-place-preserved
loop-place-preserved c = (search row_more, simp length-set (omega arith))

pub returns : goal.returns
returns c = search row_done
