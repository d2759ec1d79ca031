use Rattle.lent.specs.Lent.{lent}
use Rattle.begin.specs.Ways.{file_accepted, file_refused}
use Rattle.begin.specs.Begin.{checked_file}
use Rattle.begin.proofs.checked_file.Goals as goal

pub returns-in-Ok : goal.returns-in-Ok
returns-in-Ok c = lent {x = checked_file _ _ _ _} (search file_accepted)

pub returns-in-Err : goal.returns-in-Err
returns-in-Err c = lent {x = checked_file _ _ _ _} (search file_refused)
