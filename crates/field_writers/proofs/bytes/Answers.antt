use Rattle.std.proofs.Common.{arith}
use Rattle.field_writers.specs.Fields.{bytes_none, bytes_copied}
use Rattle.field_writers.proofs.bytes.Goals as goal

pub returns-then-end-from : goal.returns-then-end-from
returns-then-end-from c = bytes_none _ _ _ _ _ _ c.on-end.ensures (omega arith) (omega arith) (omega arith)

pub returns : goal.returns
returns c = bytes_copied _ _ _ _ _ _ c.on-end.ensures _ _ (omega arith) c.word.ensures
