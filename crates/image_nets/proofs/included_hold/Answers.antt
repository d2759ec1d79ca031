use Rattle.std.proofs.Common.{arith, ◌≡◌, ◌-◌, ◌+◌, ◌<◌, ◌≤◌}
use Rattle.image_nets.specs.Ways.{included_more, included_no, included_done}
use Rattle.image_nets.proofs.included_hold.Goals as goal

pub returns-in_default : goal.returns-in_default
returns-in_default c =
    let more : 0 < c.args.count - c.loop-i.i = omega arith in
    search included_no

pub loop-i-preserved : goal.loop-i-preserved
loop-i-preserved c =
    let more : 0 < c.args.count - c.loop-i.i = omega arith in
    let next : c.args.count - (c.loop-i.i + 1) ≡ c.args.count - c.loop-i.i - 1 = omega arith in
    rw next (search included_more)

pub returns : goal.returns
returns c =
    let done : c.args.count - c.loop-i.i ≤ 0 = omega arith in
    search included_done
