use Rattle.optimising.specs.Ways.{loaded_runs, load_refused}
use Rattle.write_nodes.specs.Wrote.{three}
use Rattle.optimising.specs.Optimising as Spec
use Rattle.optimising.proofs.optimize_loaded.Goals as goal

pub returns-then-r-eq0 : goal.returns-then-r-eq0
returns-then-r-eq0 c = three {x = Spec.optimize_loaded _ _ _ _} (search loaded_runs)

pub returns : goal.returns
returns c = three {x = Spec.optimize_loaded _ _ _ _} (search load_refused)
