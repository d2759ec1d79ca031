use Rattle.words.specs.Left.{left}
use Rattle.run_slice.specs.Ways.{on_passed, on_acted, on_refused}
use Rattle.run_slice.specs.Run.{step_on}
use Rattle.run_slice.proofs.step_on.Goals as goal

pub returns-in-Passed : goal.returns-in-Passed
returns-in-Passed c = left {x = step_on _ _ _ _} (search on_passed)

pub returns-in-Acted : goal.returns-in-Acted
returns-in-Acted c = left {x = step_on _ _ _ _} (search on_acted)

pub returns-in-Refused : goal.returns-in-Refused
returns-in-Refused c = left {x = step_on _ _ _ _} (search on_refused)
