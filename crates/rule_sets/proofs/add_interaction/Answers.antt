use Rattle.rule_sets.specs.Sets as spec
use Rattle.rule_sets.proofs.add_interaction.Goals as goal

pub returns : goal.returns
unfolding spec.add_interaction
returns c = cc
