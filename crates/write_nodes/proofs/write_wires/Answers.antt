use Rattle.std.proofs.Common.{◌-◌, ◌+◌, ◌<◌, ◌≤◌, ◌≡◌, arith}
use Rattle.write_nodes.specs.Wrote.{three}
use Rattle.write_nodes.specs.Ways.{wires_more, wires_done}
use Rattle.write_nodes.specs.Nodes.{write_wires}
use Rattle.write_nodes.proofs.write_wires.Goals as goal

pub loop-preserved : goal.loop-preserved
loop-preserved c =
    let more : 0 < c.args.k - c.loop.counter = omega arith in
    let next : c.args.k - (c.loop.counter + 1) ≡ c.args.k - c.loop.counter - 1 = omega arith in
    (rw next (search wires_more), omega arith, omega arith)

pub returns : goal.returns
returns c =
    let done : c.args.k - c.loop.counter ≤ 0 = omega arith in
    three {x = write_wires _ _ _ _ _} (search wires_done)
