use Rattle.rule_sets.specs.Sets as spec
use Rattle.rule_sets.proofs.value.Goals as goal

pub returns : goal.returns
unfolding spec.value
returns c = cc
