use Rattle.std.proofs.Common.{◌≡◌, ◌+◌, ◌-◌, ◌<◌, ◌≤◌, refl, arith}
use Rattle.orders.specs.Orders.{told}
use Rattle.orders.specs.Steps.{told_more, told_not, told_unfit, told_done}
use Rattle.words.specs.Left.{left}
use Rattle.orders.proofs.nets_told.Goals as goal

pub loop-i-init : goal.loop-i-init
loop-i-init c =
    let start : c.args.n - 0 ≡ c.args.n = omega arith in
    (rw start, refl, refl)

pub returns-then-not-fits : goal.returns-then-not-fits
returns-then-not-fits c =
    let more : 0 < c.args.n - c.loop-i.i = omega arith in
    left {x = told _ _ _ _ _ _} (search told_unfit)

pub returns-then-not-net_ordered : goal.returns-then-not-net_ordered
returns-then-not-net_ordered c =
    let more : 0 < c.args.n - c.loop-i.i = omega arith in
    left {x = told _ _ _ _ _ _} (search told_not)

pub loop-i-preserved : goal.loop-i-preserved
loop-i-preserved c =
    let more : 0 < c.args.n - c.loop-i.i = omega arith in
    let next : c.args.n - (c.loop-i.i + 1) ≡ c.args.n - c.loop-i.i - 1 = omega arith in
    (rw next (search told_more), omega arith, omega arith)

pub returns : goal.returns
returns c =
    let done : c.args.n - c.loop-i.i ≤ 0 = omega arith in
    left {x = told _ _ _ _ _ _} (search told_done)
