use Rattle.std.proofs.Common.{arith}
use Rattle.repeats.specs.Steps.{compare_past}
use Rattle.repeats.proofs.compare.Goals as goal
use Rattle.repeats.proofs.compare.Goals.{then-m-n-via-then-m-n, then-m-n-via-else-m-n+then-m-n-2, then-m-n-via-else-m-n+else-m-n-2+then-m-n-3}

pub returns-then-m-n : goal.returns-then-m-n
returns-then-m-n c =
    compare_past _ _ _ _ (λ h. elim c.then-m-n.branch [
      | then-m-n-via-then-m-n w ↦ omega arith
      | then-m-n-via-else-m-n+then-m-n-2 w ↦ omega arith
      | then-m-n-via-else-m-n+else-m-n-2+then-m-n-3 w ↦ omega arith
    ])
