use Rattle.optimising.specs.Ways.{file_optimized}
use Rattle.finishing.specs.Finishing.{four}
use Rattle.optimising.specs.Optimising as Spec
use Rattle.optimising.proofs.optimize_file.Goals as goal

pub returns : goal.returns
returns c = four {x = Spec.optimize_file _ _ _ _ _} (search file_optimized)
