use Rattle.std.proofs.Common.{arith}
use Rattle.std.proofs.lemmas.Result.{err_from_is_err_and}
use Rattle.flat_from_tree.specs.Exact.{call_short, call_unread, call_read}
use Rattle.flat_from_tree.proofs.flat_from_tree.Goals as goal

pub returns-then-scratch-lt-SCRATCH : goal.returns-then-scratch-lt-SCRATCH
returns-then-scratch-lt-SCRATCH c = call_short _ _ _ (omega arith)

pub returns : goal.returns
returns c =
    let a = c.accepted.ensures in
    call_read _ _ _ (λ i. omega (arith, c.type_inv.file i)) (omega arith) (omega arith) _ _ _ _ (omega arith) c.check_tree.ensures.is c.in_ok-check_tree.was a.0 a.1 a.2

pub returns-in_err-check_tree : goal.returns-in_err-check_tree
returns-in_err-check_tree c =
    let p = err_from_is_err_and c.from_residual.result c.from_residual.ensures.1 in
    rw (p.1, p.2) (call_unread _ _ _ _ _ (omega arith) c.check_tree.ensures.is c.in_err-check_tree.was)
