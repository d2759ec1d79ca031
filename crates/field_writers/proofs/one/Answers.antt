use Rattle.std.proofs.Common.{arith}
use Rattle.field_writers.specs.Fields.{one_is}
use Rattle.field_writers.proofs.one.Goals as goal

pub returns : goal.returns
returns c = one_is _ _ _ _ _ (omega arith) c.byte.ensures
