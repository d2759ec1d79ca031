use Rattle.std.proofs.Common.{ℕ, ◌<◌, get_or, arith}
use Rattle.std.proofs.lemmas.Result.{err_from_is_err_and}
use Rattle.pruning.specs.Exact.{prune_is, prune_left, prune_refused_is, prune_refused_left}
use Rattle.pruning.proofs.prune.Goals as goal

pub returns-in_err-check_flat : goal.returns-in_err-check_flat
returns-in_err-check_flat c =
    let p = err_from_is_err_and c.from_residual.result c.from_residual.ensures.1 in
    rw (p.1, p.2)
    (prune_refused_is _ _ c.args.out.now _ _ c.check_flat.ensures.is _ c.in_err-check_flat.was, prune_refused_left _ _ _ _ _ c.check_flat.ensures.is _ c.in_err-check_flat.was)

pub returns : goal.returns
returns c =
    let y : (i : ℕ) → get_or c.args.file.now i 0 < 256 = λ i. omega (arith, c.type_inv.file i) in
    let a = c.prune_accepted.ensures in
    (prune_is _ _ c.args.out.now _ _ c.check_flat.ensures.is _ c.in_ok-check_flat.was y a.0, prune_left _ _ _ _ _ c.check_flat.ensures.is _ c.in_ok-check_flat.was y a.1)
