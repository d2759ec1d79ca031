use Rattle.std.proofs.Common.{arith}
use Rattle.put.specs.Laws.{full_if, refused}
use Rattle.writers.specs.Laws.{size_eta, eta_parts}
use Rattle.writers.proofs.put_eta.Goals as goal

pub returns-then-nils-gt255 : goal.returns-then-nils-gt255
returns-then-nils-gt255 c = refused (λ h. omega arith)

pub returns-then-values-gt255 : goal.returns-then-values-gt255
returns-then-values-gt255 c = refused (λ h. omega arith)

pub returns-then-combinators-gt255 : goal.returns-then-combinators-gt255
returns-then-combinators-gt255 c = refused (λ h. omega arith)

pub returns-then-space-middle : goal.returns-then-space-middle
returns-then-space-middle c = full_if (size_eta _ _ _) (omega arith)

pub returns : goal.returns
returns c = search eta_parts
