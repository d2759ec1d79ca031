use Rattle.std.proofs.Common.{◌-◌, ◌<◌, ◌≡◌, ◌+◌, ◌≤◌, arith}
use Rattle.wiring.specs.Steps.{twice_none, twice_start, twice_more, twice_no, twice_done}
use Rattle.wiring.proofs.twice_run.Goals as goal

pub returns-then-not-there : goal.returns-then-not-there
returns-then-not-there c = twice_none _ _ _ _ _ c.if-not-there.ensures

pub returns-then-not-twice : goal.returns-then-not-twice
returns-then-not-twice c =
    let more : 0 < c.args.n - c.loop.counter = omega arith in
    search twice_no

pub loop-preserved : goal.loop-preserved
loop-preserved c =
    let more : 0 < c.args.n - c.loop.counter = omega arith in
    let next : c.args.n - (c.loop.counter + 1) ≡ c.args.n - c.loop.counter - 1 = omega arith in
    (rw next (search twice_more), omega arith)

pub returns : goal.returns
returns c =
    let done : c.args.n - c.loop.counter ≤ 0 = omega arith in
    search twice_done

pub loop-init : goal.loop-init
loop-init c =
    let start : c.args.n - 0 ≡ c.args.n = omega arith in
    (rw start (twice_start _ _ _ _ _ c.if-not-there.ensures), omega arith)
