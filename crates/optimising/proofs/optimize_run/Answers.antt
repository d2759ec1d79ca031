use Rattle.optimising.specs.Ways.{run_finished, run_refused}
use Rattle.write_nodes.specs.Wrote.{three}
use Rattle.optimising.specs.Optimising as Spec
use Rattle.optimising.proofs.optimize_run.Goals as goal

pub returns-in-Rested : goal.returns-in-Rested
returns-in-Rested c = three {x = Spec.optimize_run _ _ _} (search run_finished)

pub returns-in-Refused : goal.returns-in-Refused
returns-in-Refused c = three {x = Spec.optimize_run _ _ _} (search run_refused)
