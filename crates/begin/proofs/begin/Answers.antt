use Rattle.lent.specs.Lent.{lent}
use Rattle.begin.specs.Ways.{begin_short, begin_checks, begin_no_room}
use Rattle.begin.specs.Begin as Spec
use Rattle.begin.proofs.begin.Goals as goal

pub returns-then-bs-file : goal.returns-then-bs-file
returns-then-bs-file c = lent {x = Spec.begin _ _ _ _} (search begin_short)

pub returns-then-room : goal.returns-then-room
returns-then-room c = lent {x = Spec.begin _ _ _ _} (search begin_checks)

pub returns : goal.returns
returns c = lent {x = Spec.begin _ _ _ _} (search begin_no_room)
