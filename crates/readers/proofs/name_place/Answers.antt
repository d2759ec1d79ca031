use Rattle.readers.specs.Places.{name_table}
use Rattle.readers.proofs.name_place.Goals as goal

pub returns : goal.returns
returns c = search name_table
