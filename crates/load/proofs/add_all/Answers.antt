use Rattle.load.specs.Added.{added}
use Rattle.load.specs.Load.{add_all}
use Rattle.load.specs.Ways.{all_refused, all_more}
use Rattle.load.proofs.add_all.Goals as goal

pub returns-then-r-gt0 : goal.returns-then-r-gt0
returns-then-r-gt0 c = added {x = add_all _ _ _ _ _} (search all_refused)

pub returns : goal.returns
returns c = added {x = add_all _ _ _ _ _} (search all_more)
