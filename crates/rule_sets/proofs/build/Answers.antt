use Rattle.rule_sets.specs.Steps.{built}
use Rattle.rule_sets.proofs.build.Goals as goal

pub returns : goal.returns
returns c = search built
