use Rattle.field_writers.specs.Fields.{list_is}
use Rattle.field_writers.proofs.list.Goals as goal

pub returns : goal.returns
returns c = search list_is
