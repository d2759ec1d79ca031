use Rattle.std.proofs.Common.{◌-◌, ◌<◌, ◌≡◌, ◌+◌, ◌≤◌, arith, rules}
use Rattle.wiring.specs.Steps.{tally_none, tally_start, tally_more, tally_done}
use Rattle.wiring.proofs.tally_run.Goals as goal

pub returns-then-not-there : goal.returns-then-not-there
returns-then-not-there c = tally_none _ _ _ _ _ c.if-not-there.ensures

pub loop-preserved : goal.loop-preserved
loop-preserved c =
    let more : 0 < c.args.n - c.loop.counter = omega arith in
    let next : c.args.n - (c.loop.counter + 1) ≡ c.args.n - c.loop.counter - 1 = omega arith in
    (rw next (search tally_more), omega arith, omega arith)

pub returns : goal.returns
returns c =
    let done : c.args.n - c.loop.counter ≤ 0 = omega arith in
    search tally_done

pub loop-init : goal.loop-init
loop-init c =
    let start : c.args.n - 0 ≡ c.args.n = omega arith in
    (rw start (tally_start _ _ _ _ _ c.if-not-there.ensures), search rules, omega arith)
