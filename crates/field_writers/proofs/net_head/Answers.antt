use Rattle.field_writers.specs.Fields.{head_is}
use Rattle.field_writers.proofs.net_head.Goals as goal

pub returns : goal.returns
returns c = search head_is
