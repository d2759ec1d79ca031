use Rattle.rule_names.specs.RuleNames.{rule_names}
use Rattle.rule_names.proofs.rule_names.Goals as goal

pub returns : goal.returns
unfolding rule_names
returns c = cc
