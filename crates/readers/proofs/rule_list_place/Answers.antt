use Rattle.readers.specs.Places.{list_table}
use Rattle.readers.proofs.rule_list_place.Goals as goal

pub returns : goal.returns
returns c = search list_table
