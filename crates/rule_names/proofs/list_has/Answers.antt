use Rattle.rule_names.specs.RuleNames.{list_has}
use Rattle.rule_names.proofs.list_has.Goals as goal

pub returns : goal.returns
unfolding list_has
returns c = cc
