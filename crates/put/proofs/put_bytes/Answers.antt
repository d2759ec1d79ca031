use Rattle.std.proofs.Common.{arith, ◌+◌, ◌-◌, ◌≤◌, ◌≡◌, length-set}
use Rattle.put.specs.Written.{put_in, part}
use Rattle.put.specs.Laws.{full_if, refused, written_if}
use Rattle.put.specs.Fields.{put_in_none, size_part, part_next, part_done}
use Rattle.put.proofs.put_bytes.Goals as goal

pub returns-then-s-from : goal.returns-then-s-from
returns-then-s-from c = refused (λ h. omega arith)

pub returns-then-s-from-2 : goal.returns-then-s-from-2
returns-then-s-from-2 c = refused (λ h. omega arith)

pub returns-then-out-at : goal.returns-then-out-at
returns-then-out-at c = full_if (size_part _ _ _ (omega arith)) (omega arith)

pub returns-then-out-at-2 : goal.returns-then-out-at-2
returns-then-out-at-2 c = full_if (size_part _ _ _ (omega arith)) (omega arith)

pub loop-i-init : goal.loop-i-init
unfolding part
loop-i-init c = (put_in_none _ _ (omega arith), omega arith, omega arith, omega arith)

pub loop-i-preserved : goal.loop-i-preserved
loop-i-preserved c = (search part_next, omega arith, simp length-set (omega arith), omega arith)

pub returns : goal.returns
returns c = written_if (omega arith) (search part_done)
