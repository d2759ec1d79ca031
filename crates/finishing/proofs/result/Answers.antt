use Rattle.write_nodes.specs.Wrote.{three}
use Rattle.finishing.specs.Ways.{result_written, result_refused}
use Rattle.finishing.specs.Finishing as Spec
use Rattle.finishing.proofs.result.Goals as goal

pub returns-then-fits : goal.returns-then-fits
returns-then-fits c = three {x = Spec.run_result _ _ _} (search result_written)

pub returns : goal.returns
returns c = three {x = Spec.run_result _ _ _} (search result_refused)
