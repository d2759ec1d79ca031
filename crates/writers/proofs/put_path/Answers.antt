use Rattle.std.proofs.Common.{arith}
use Rattle.put.specs.Laws.{full_if, refused}
use Rattle.writers.specs.Laws.{size_path, path_parts}
use Rattle.writers.proofs.put_path.Goals as goal

pub returns-then-s-from : goal.returns-then-s-from
returns-then-s-from c = refused (λ h. omega arith)

pub returns-then-s-from-2 : goal.returns-then-s-from-2
returns-then-s-from-2 c = refused (λ h. omega arith)

pub returns-then-space-k : goal.returns-then-space-k
returns-then-space-k c = full_if (size_path _ _ _ (omega arith)) (omega arith)

pub returns : goal.returns
returns c = search path_parts
