use Rattle.field_writers.specs.Fields.{name_is}
use Rattle.field_writers.proofs.name.Goals as goal

pub returns : goal.returns
returns c = search name_is
