use Rattle.std.proofs.Common.{◌-◌, ◌+◌, ◌<◌, ◌≤◌, ◌≡◌, arith}
use Rattle.words.specs.Left.{left}
use Rattle.load.specs.Load.{add_flat_nets}
use Rattle.load.specs.Ways.{nets_more, nets_refused, nets_done}
use Rattle.load.proofs.add_flat_nets.Goals as goal

pub returns-then-r-gt0 : goal.returns-then-r-gt0
returns-then-r-gt0 c =
    let more : 0 < c.args.count - c.loop-i.i = omega arith in
    left {x = add_flat_nets _ _ _ _} (search nets_refused)

pub loop-i-preserved : goal.loop-i-preserved
loop-i-preserved c =
    let more : 0 < c.args.count - c.loop-i.i = omega arith in
    let next : c.args.count - (c.loop-i.i + 1) ≡ c.args.count - c.loop-i.i - 1 = omega arith in
    (rw next (search nets_more), omega arith)

pub returns : goal.returns
returns c =
    let done : c.args.count - c.loop-i.i ≤ 0 = omega arith in
    left {x = add_flat_nets _ _ _ _} (search nets_done)
