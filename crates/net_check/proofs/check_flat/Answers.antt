use Rattle.std.proofs.Common.{Err, get_or, ◌≡◌, arith, ℕ, ◌<◌}
use Rattle.std.proofs.lemmas.Result.{err_from_is_err_and}
use Rattle.refusals.specs.declared.Refusal.TheVariants.{BadBody}
use Rattle.net_file.specs.Checks.{flat, read}
use Rattle.net_check.specs.Verdict.{verdict, number_is}
use Rattle.net_check.specs.Exact.{flat_head, flat_five, flat_read}
use Rattle.net_check.proofs.check_flat.Goals as goal

err : (c : goal.After-from_residual) → c.from_residual.result ≡ verdict (read flat c.args.s.now)
err c =
    let p = err_from_is_err_and c.from_residual.result c.from_residual.ensures.1 in
    rw (p.1, p.2) (flat_head _ _ _ c.head.ensures c.in_err-head.was)

was_read : (c : goal.After-flat_later) → c.flat_later.result ≡ verdict (read flat c.args.s.now)
was_read c =
    let y : (i : ℕ) → get_or c.args.s.now i 0 < 256 = λ i. omega (arith, c.shared_slice_known-1.given i) in
    flat_read _ _ _ c.in_ok-head.was _ _ c.in-Some.is y c.head.ensures c.flat_body.ensures c.flat_later.ensures

unread : (c : goal.In-None) → Err BadBody ≡ verdict (read flat c.args.s.now)
unread c = flat_five _ _ _ c.in_ok-head.was c.head.ensures c.flat_body.ensures c.in-None.is

pub returns-in_err-head-clause-is : goal.returns-in_err-head-clause-is
returns-in_err-head-clause-is c = err c

pub returns-in_err-head-clause-number : goal.returns-in_err-head-clause-number
returns-in_err-head-clause-number c = number_is flat _ _ (err c)

pub returns-in-Some-clause-is : goal.returns-in-Some-clause-is
returns-in-Some-clause-is c = was_read c

pub returns-in-Some-clause-number : goal.returns-in-Some-clause-number
returns-in-Some-clause-number c = number_is flat _ _ (was_read c)

pub returns-in-None-clause-is : goal.returns-in-None-clause-is
returns-in-None-clause-is c = unread c

pub returns-in-None-clause-number : goal.returns-in-None-clause-number
returns-in-None-clause-number c = number_is flat _ _ (unread c)
