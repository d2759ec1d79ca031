use Rattle.std.proofs.Common.{◌-◌, ◌+◌, ◌<◌, ◌≤◌, ◌≡◌, arith}
use Rattle.eta.specs.Ways.{odd_more, odd_here, odd_none}
use Rattle.eta.proofs.odd_port.Goals as goal

pub loop-preserved : goal.loop-preserved
loop-preserved c =
    let more : 0 < c.args.k - c.loop.counter = omega arith in
    let next : c.args.k - (c.loop.counter + 1) ≡ c.args.k - c.loop.counter - 1 = omega arith in
    rw next (search odd_more)

pub returns-then-not-is_principal : goal.returns-then-not-is_principal
returns-then-not-is_principal c =
    let more : 0 < c.args.k - c.loop.counter = omega arith in
    search odd_here

pub returns : goal.returns
returns c =
    let done : c.args.k - c.loop.counter ≤ 0 = omega arith in
    search odd_none
