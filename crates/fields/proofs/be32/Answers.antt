use Rattle.fields.specs.Fields.{be32_past}
use native.Mathlib.Omega.{arith}
use Rattle.fields.proofs.be32.Goals as goal

pub returns-then-n-at : goal.returns-then-n-at
returns-then-n-at c = rw (be32_past, c.if-n-at.true)

pub returns : goal.returns
returns c = omega arith
