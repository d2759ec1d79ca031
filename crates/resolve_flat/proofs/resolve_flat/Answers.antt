use Rattle.std.proofs.Common.{arith}
use Rattle.std.proofs.lemmas.Result.{err_from_is_err_and}
use Rattle.resolve_flat.specs.Exact.{call_short, call_unread, call_read}
use Rattle.resolve_flat.proofs.resolve_flat.Goals as goal

pub returns-then-scratch-lt-SCRATCH : goal.returns-then-scratch-lt-SCRATCH
returns-then-scratch-lt-SCRATCH c = call_short _ _ _ (omega arith)

pub returns : goal.returns
returns c = call_read _ _ _ (λ i. omega (arith, c.shared_slice_known-1.given i)) _ _ _ _ (omega arith) c.check_flat.ensures.is c.in_ok-check_flat.was c.accepted.ensures

pub returns-in_err-check_flat : goal.returns-in_err-check_flat
returns-in_err-check_flat c =
    let p = err_from_is_err_and c.from_residual.result c.from_residual.ensures.1 in
    rw (p.1, p.2) (call_unread _ _ _ _ _ (omega arith) c.check_flat.ensures.is c.in_err-check_flat.was)
