use Rattle.readers.specs.Places.{rules_after}
use Rattle.readers.proofs.rule_count_at.Goals as goal

pub returns : goal.returns
returns c = search rules_after
