use Rattle.rule_sets.specs.Steps.{add_known, add_new}
use Rattle.rule_sets.proofs.add.Goals as goal

pub returns-then-has : goal.returns-then-has
returns-then-has c = search add_known

pub returns : goal.returns
returns c = search add_new
