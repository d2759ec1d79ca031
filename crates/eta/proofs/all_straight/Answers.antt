use Rattle.std.proofs.Common.{◌-◌, ◌+◌, ◌<◌, ◌≤◌, ◌≡◌, arith}
use Rattle.eta.specs.Ways.{all_straight_more, all_straight_not, all_straight_done}
use Rattle.eta.proofs.all_straight.Goals as goal

pub loop-preserved : goal.loop-preserved
loop-preserved c =
    let more : 0 < c.args.k - c.loop.counter = omega arith in
    let next : c.args.k - (c.loop.counter + 1) ≡ c.args.k - c.loop.counter - 1 = omega arith in
    rw next (search all_straight_more)

pub returns-then-not-straight : goal.returns-then-not-straight
returns-then-not-straight c =
    let more : 0 < c.args.k - c.loop.counter = omega arith in
    search all_straight_not

pub returns : goal.returns
returns c =
    let done : c.args.k - c.loop.counter ≤ 0 = omega arith in
    search all_straight_done
