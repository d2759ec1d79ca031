use Rattle.fields.specs.Fields.{byte_past}
use Rattle.fields.proofs.byte.Goals as goal

pub returns-else-at-s : goal.returns-else-at-s
returns-else-at-s c = rw (byte_past, c.if-at-s.false)
