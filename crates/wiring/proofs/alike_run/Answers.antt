use Rattle.std.proofs.Common.{◌-◌, ◌<◌, ◌≡◌, ◌+◌, ◌≤◌, arith}
use Rattle.wiring.specs.Steps.{alike_none, alike_start, alike_more, alike_no, alike_done}
use Rattle.wiring.proofs.alike_run.Goals as goal

pub returns-then-not-there : goal.returns-then-not-there
returns-then-not-there c = alike_none _ _ _ _ c.if-not-there.ensures

pub loop-preserved : goal.loop-preserved
loop-preserved c =
    let more : 0 < c.args.n - c.loop.counter = omega arith in
    let next : c.args.n - (c.loop.counter + 1) ≡ c.args.n - c.loop.counter - 1 = omega arith in
    (rw next (alike_more _ _ _ _ _ _ _ (c.args.n - c.loop.counter) c.loop.invariant.0 (omega arith) c.be16-a.ensures c.be16-b.ensures c.alike.ensures c.if-not-alike.false), omega arith)

pub returns-then-not-alike : goal.returns-then-not-alike
returns-then-not-alike c = alike_no _ _ c.loop.at c.be16-a.result c.be16-b.result _ _ (c.args.n - c.loop.counter) c.loop.invariant.0 (omega arith) c.be16-a.ensures c.be16-b.ensures c.alike.ensures c.if-not-alike.true

pub returns : goal.returns
returns c =
    let done : c.args.n - c.loop.counter ≤ 0 = omega arith in
    search alike_done

pub loop-init : goal.loop-init
loop-init c =
    let start : c.args.n - 0 ≡ c.args.n = omega arith in
    (rw start (alike_start _ _ _ _ c.if-not-there.ensures), omega arith)
