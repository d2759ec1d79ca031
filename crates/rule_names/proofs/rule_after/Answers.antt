use Rattle.rule_names.specs.RuleNames.{rule_after}
use Rattle.rule_names.proofs.rule_after.Goals as goal

pub returns : goal.returns
unfolding rule_after
returns c = cc
