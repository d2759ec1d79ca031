use Rattle.std.proofs.Common.{arith}
use Rattle.text_writers.specs.Wrote.{one_past}
use Rattle.text_writers.proofs.byte.Goals as goal

pub returns : goal.returns
returns c = one_past (omega arith) (omega arith) (cc)
