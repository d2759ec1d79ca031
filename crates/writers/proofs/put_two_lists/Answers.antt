use Rattle.std.proofs.Common.{arith}
use Rattle.put.specs.Laws.{full_if, refused}
use Rattle.writers.specs.Laws.{size_lists, lists_parts}
use Rattle.writers.proofs.put_two_lists.Goals as goal

pub returns-then-xs-gt255 : goal.returns-then-xs-gt255
returns-then-xs-gt255 c = refused (λ h. omega arith)

pub returns-then-ys-gt255 : goal.returns-then-ys-gt255
returns-then-ys-gt255 c = refused (λ h. omega arith)

pub returns-then-space-middle : goal.returns-then-space-middle
returns-then-space-middle c = full_if (size_lists _ _ _) (omega arith)

pub returns : goal.returns
returns c = search lists_parts
