use Rattle.words.specs.Left.{left}
use Rattle.run_slice.specs.Ways.{go_over, go_empty, go_steps}
use Rattle.run_slice.specs.Run.{go_on}
use Rattle.run_slice.proofs.go_on.Goals as goal

pub returns-then-over : goal.returns-then-over
returns-then-over c = left {x = go_on _ _ _ _ _} (search go_over)

pub returns-then-get-eq0 : goal.returns-then-get-eq0
returns-then-get-eq0 c = left {x = go_on _ _ _ _ _} (search go_empty)

pub returns : goal.returns
returns c = left {x = go_on _ _ _ _ _} (search go_steps)
