use Rattle.std.proofs.Common.{◌-◌, ◌<◌, ◌≡◌, ◌+◌, ◌≤◌, arith}
use Rattle.wire_ends.specs.WireEnds.{joined, join_wires}
use Rattle.wire_ends.specs.Ways.{wires_done}
use Rattle.load.specs.Ways.{wires_next}
use Rattle.load.proofs.join_there.Goals as goal

pub loop-preserved : goal.loop-preserved
loop-preserved c =
    let more : 0 < c.args.k - c.loop.counter = omega arith in
    let next : c.args.k - (c.loop.counter + 1) ≡ c.args.k - c.loop.counter - 1 = omega arith in
    (rw next (search wires_next), omega arith, omega arith, omega arith)

pub returns : goal.returns
returns c =
    let done : c.args.k - c.loop.counter ≤ 0 = omega arith in
    joined {x = join_wires _ _ _ _ _ _} (search wires_done)
