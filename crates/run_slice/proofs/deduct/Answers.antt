use Rattle.run_slice.specs.Ways.{deduct_none, deduct_some}
use Rattle.run_slice.proofs.deduct.Goals as goal

pub returns-then-limit : goal.returns-then-limit
returns-then-limit c = search deduct_none

pub returns : goal.returns
returns c = search deduct_some
