use Rattle.rule_sets.specs.Steps.{pair_is}
use Rattle.rule_sets.proofs.add_pair.Goals as goal

pub returns : goal.returns
returns c = search pair_is
