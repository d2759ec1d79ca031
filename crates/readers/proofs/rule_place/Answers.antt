use Rattle.readers.specs.Places.{rule_table}
use Rattle.readers.proofs.rule_place.Goals as goal

pub returns : goal.returns
returns c = search rule_table
