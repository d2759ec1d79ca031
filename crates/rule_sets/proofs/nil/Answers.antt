use Rattle.rule_sets.specs.Sets as spec
use Rattle.rule_sets.proofs.nil.Goals as goal

pub returns : goal.returns
unfolding spec.nil
returns c = cc
