use Rattle.std.proofs.Common.{◌-◌, ◌+◌, ◌<◌, ◌≤◌, ◌≡◌, arith}
use Rattle.write_nodes.specs.Wrote.{three}
use Rattle.finish.specs.Ways.{nets_more, nets_done}
use Rattle.finish.specs.Finish.{write_nets}
use Rattle.finish.proofs.write_nets.Goals as goal

pub loop-i-preserved : goal.loop-i-preserved
loop-i-preserved c =
    let more : 0 < c.args.count - c.loop-i.i = omega arith in
    let next : c.args.count - (c.loop-i.i + 1) ≡ c.args.count - c.loop-i.i - 1 = omega arith in
    (rw next (search nets_more), omega arith, omega arith)

pub returns : goal.returns
returns c =
    let done : c.args.count - c.loop-i.i ≤ 0 = omega arith in
    three {x = write_nets _ _ _ _ _ _} (search nets_done)
