use Rattle.std.proofs.Common.{arith, refl}
use Rattle.put.specs.Laws.{full, pasted}
use Rattle.put.proofs.put_all.Goals as goal

pub returns-then-out-at : goal.returns-then-out-at
returns-then-out-at c = full (record { is = refl }) (omega arith)

pub returns-then-out-at-2 : goal.returns-then-out-at-2
returns-then-out-at-2 c = full (record { is = refl }) (omega arith)

pub returns : goal.returns
returns c = pasted (omega arith) refl c.copy_from_slice.ensures.after (omega arith)
