use Rattle.load.specs.Added.{added}
use Rattle.load.specs.Load.{add_free}
use Rattle.load.specs.Ways.{free_at, free_refused}
use Rattle.load.proofs.add_free.Goals as goal

pub returns-in-At : goal.returns-in-At
returns-in-At c = added {x = add_free _ _ _ _ _} (search free_at)

pub returns-in-Refused : goal.returns-in-Refused
returns-in-Refused c = added {x = add_free _ _ _ _ _} (search free_refused)
