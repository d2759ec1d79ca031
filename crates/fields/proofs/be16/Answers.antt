use Rattle.fields.specs.Fields.{be16_past, be16_end}
use Rattle.fields.proofs.be16.Goals as goal

pub returns-then-n-at : goal.returns-then-n-at
returns-then-n-at c = rw (be16_past, c.if-n-at.true)

pub returns-then-n-at-lt2 : goal.returns-then-n-at-lt2
returns-then-n-at-lt2 c = search be16_end
