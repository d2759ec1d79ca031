use Rattle.std.proofs.Common.{arith}
use Rattle.put.specs.Written.{numbers}
use Rattle.put.specs.Laws.{full}
use Rattle.put.specs.Fields.{put_in_none, size_numbers, numbers_more, numbers_done}
use Rattle.put.proofs.put_numbers.Goals as goal

pub returns-then-out-n : goal.returns-then-out-n
returns-then-out-n c = full (size_numbers _) (omega arith)

pub returns-then-out-n-2 : goal.returns-then-out-n-2
returns-then-out-n-2 c = full (size_numbers _) (omega arith)

pub loop-i-init : goal.loop-i-init
unfolding numbers
loop-i-init c = (put_in_none _ _ (omega arith), omega arith)

pub loop-i-preserved : goal.loop-i-preserved
loop-i-preserved c = (search numbers_more, omega arith)

pub returns : goal.returns
returns c = search numbers_done
