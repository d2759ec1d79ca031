use Rattle.fields.specs.Fields.{be32_halves}
use Rattle.fields.specs.Fields.{be32_past, be32_end}
use Rattle.fields.proofs.be32_short.Goals as goal

pub returns-then-n-at : goal.returns-then-n-at
returns-then-n-at c = rw (be32_past, c.if-n-at.true)

pub returns-then-n-at-lt3 : goal.returns-then-n-at-lt3
returns-then-n-at-lt3 c = search be32_end

pub returns : goal.returns
returns c = search be32_halves
