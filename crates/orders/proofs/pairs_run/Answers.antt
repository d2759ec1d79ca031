use Rattle.std.proofs.Common.{◌-◌, ◌<◌, ◌≡◌, ◌+◌, ◌≤◌, arith, rules}
use Rattle.orders.specs.Steps.{pairs_none, pairs_start, pairs_more, pairs_no, pairs_done}
use Rattle.orders.specs.Orders.{pairs_from}
use Rattle.words.specs.Left.{left}
use Rattle.orders.proofs.pairs_run.Goals as goal

pub returns-then-not-there : goal.returns-then-not-there
returns-then-not-there c = left {x = pairs_from _ _ _ _} (pairs_none _ _ _ _ _ c.if-not-there.ensures)

pub loop-preserved : goal.loop-preserved
loop-preserved c =
    let more : 0 < c.args.n - c.loop.counter = omega arith in
    let next : c.args.n - (c.loop.counter + 1) ≡ c.args.n - c.loop.counter - 1 = omega arith in
    let l = c.loop in (rw next (pairs_more _ _ _ _ _ _ _ _ _ _ (c.args.n - l.counter) l.invariant.0 (omega arith) c.be16-a.ensures c.be16-b.ensures c.pair_step.ensures.0 c.pair_step.ensures.1 c.if-not-pair_step.false), omega arith, omega arith)

pub returns-then-not-pair_step : goal.returns-then-not-pair_step
returns-then-not-pair_step c = let l = c.loop in left {x = pairs_from _ _ _ _} (pairs_no _ _ _ _ _ _ _ _ _ _ (c.args.n - l.counter) l.invariant.0 (omega arith) c.be16-a.ensures c.be16-b.ensures c.pair_step.ensures.0 c.pair_step.ensures.1 c.if-not-pair_step.true)

pub returns : goal.returns
returns c =
    let done : c.args.n - c.loop.counter ≤ 0 = omega arith in
    left {x = pairs_from _ _ _ _} (search pairs_done)

pub loop-init : goal.loop-init
loop-init c =
    let start : c.args.n - 0 ≡ c.args.n = omega arith in
    (rw start (pairs_start _ _ _ _ _ c.if-not-there.ensures), search rules, omega arith)
