use Rattle.lent.specs.Lent.{lent}
use Rattle.begin.specs.Ways.{file_loaded, load_refused}
use Rattle.begin.specs.Begin.{load_file}
use Rattle.begin.proofs.load_file.Goals as goal

pub returns-then-r-eq0 : goal.returns-then-r-eq0
returns-then-r-eq0 c = lent {x = load_file _ _ _ _} (search file_loaded)

pub returns : goal.returns
returns c = lent {x = load_file _ _ _ _} (search load_refused)
