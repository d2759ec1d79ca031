use Rattle.optimising.specs.Ways.{optimize_short, optimize_checks, optimize_no_room}
use Rattle.finishing.specs.Finishing.{four}
use Rattle.optimising.specs.Optimising as Spec
use Rattle.optimising.proofs.optimize.Goals as goal

pub returns-then-bs-file : goal.returns-then-bs-file
returns-then-bs-file c = four {x = Spec.optimize _ _ _ _ _} (search optimize_short)

pub returns-then-room : goal.returns-then-room
returns-then-room c = four {x = Spec.optimize _ _ _ _ _} (search optimize_checks)

pub returns : goal.returns
returns c = four {x = Spec.optimize _ _ _ _ _} (search optimize_no_room)
