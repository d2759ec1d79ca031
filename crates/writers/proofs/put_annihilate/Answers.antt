use Rattle.std.proofs.Common.{arith}
use Rattle.put.specs.Laws.{full_if, refused}
use Rattle.writers.specs.Laws.{size_annihilate, annihilate_parts}
use Rattle.writers.proofs.put_annihilate.Goals as goal

pub returns-then-ps-gt255 : goal.returns-then-ps-gt255
returns-then-ps-gt255 c = refused (λ h. omega arith)

pub returns-then-space-ps : goal.returns-then-space-ps
returns-then-space-ps c = full_if (size_annihilate _) (omega arith)

pub returns : goal.returns
returns c = search annihilate_parts
