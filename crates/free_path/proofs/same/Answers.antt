use Rattle.free_path.specs.Steps.{same_start, same_more, same_no, same_done}
use Rattle.free_path.proofs.same.Goals as goal

pub loop-b-init : goal.loop-b-init
loop-b-init c = same_start _ _ _

pub returns-then-byte-b : goal.returns-then-byte-b
returns-then-byte-b c = search same_no

pub loop-b-preserved : goal.loop-b-preserved
loop-b-preserved c = search same_more

pub returns : goal.returns
returns c = search same_done
