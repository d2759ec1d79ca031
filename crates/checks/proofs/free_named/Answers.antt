use Rattle.checks.specs.Checks.{free_named}
use Rattle.checks.proofs.free_named.Goals as goal

pub returns : goal.returns
unfolding free_named
returns c = cc
