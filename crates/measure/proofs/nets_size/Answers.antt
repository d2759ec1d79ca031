use Rattle.std.proofs.Common.{◌-◌, ◌+◌, ◌<◌, ◌≤◌, ◌≡◌, arith}
use Rattle.measure.specs.Ways.{nets_more, nets_done}
use Rattle.measure.specs.Measure.{nets_size}
use Rattle.measure.proofs.nets_size.Goals as goal

pub loop-i-preserved : goal.loop-i-preserved
loop-i-preserved c =
    let more : 0 < c.args.count - c.loop-i.i = omega arith in
    let next : c.args.count - (c.loop-i.i + 1) ≡ c.args.count - c.loop-i.i - 1 = omega arith in
    rw next (search nets_more)

pub returns : goal.returns
returns c =
    let done : c.args.count - c.loop-i.i ≤ 0 = omega arith in
    search nets_done
