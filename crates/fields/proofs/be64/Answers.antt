use Rattle.fields.specs.Fields.{be64_past, be64_end}
use Rattle.fields.proofs.be64.Goals as goal

pub returns-then-n-at : goal.returns-then-n-at
returns-then-n-at c = rw (be64_past, c.if-n-at.true)

pub returns-then-n-at-lt5 : goal.returns-then-n-at-lt5
returns-then-n-at-lt5 c = search be64_end
