use Rattle.optimising.specs.Ways.{file_accepted, file_refused}
use Rattle.finishing.specs.Finishing.{four}
use Rattle.optimising.specs.Optimising as Spec
use Rattle.optimising.proofs.optimize_checked.Goals as goal

pub returns-in-Ok : goal.returns-in-Ok
returns-in-Ok c = four {x = Spec.optimize_checked _ _ _ _ _} (search file_accepted)

pub returns-in-Err : goal.returns-in-Err
returns-in-Err c = four {x = Spec.optimize_checked _ _ _ _ _} (search file_refused)
