use Rattle.std.proofs.Common.{arith}
use Rattle.put.specs.Laws.{full_if, refused}
use Rattle.put.specs.Fields.{size_counted, counted_parts}
use Rattle.put.proofs.put_counted.Goals as goal

pub returns-then-n-gt255 : goal.returns-then-n-gt255
returns-then-n-gt255 c = refused (λ h. omega arith)

pub returns-then-space-n : goal.returns-then-space-n
returns-then-space-n c = full_if (size_counted _) (omega arith)

pub returns : goal.returns
returns c = search counted_parts
