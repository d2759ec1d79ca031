use Rattle.std.proofs.Common.{arith}
use Rattle.put.specs.Laws.{full_if, refused}
use Rattle.writers.specs.Laws.{size_name, name_parts}
use Rattle.writers.proofs.put_name.Goals as goal

pub returns-then-children-gt255 : goal.returns-then-children-gt255
returns-then-children-gt255 c = refused (λ h. omega arith)

pub returns-then-space-children : goal.returns-then-space-children
returns-then-space-children c = full_if (size_name _ _ _) (omega arith)

pub returns : goal.returns
returns c = search name_parts
