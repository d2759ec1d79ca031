use Rattle.readers.specs.Places.{path_table}
use Rattle.readers.proofs.path_place.Goals as goal

pub returns : goal.returns
returns c = search path_table
