use Rattle.std.proofs.Common.{◌-◌, ◌+◌, ◌<◌, ◌≤◌, ◌≡◌, arith}
use Rattle.wiring.specs.Steps.{nodes_twice_more, nodes_twice_no, nodes_twice_done}
use Rattle.wiring.proofs.twice_nodes.Goals as goal

pub loop-preserved : goal.loop-preserved
loop-preserved c =
    let more : 0 < c.args.n - c.loop.counter = omega arith in
    let next : c.args.n - (c.loop.counter + 1) ≡ c.args.n - c.loop.counter - 1 = omega arith in
    rw next (search nodes_twice_more)

pub returns-then-not-twice_node : goal.returns-then-not-twice_node
returns-then-not-twice_node c =
    let more : 0 < c.args.n - c.loop.counter = omega arith in
    search nodes_twice_no

pub returns : goal.returns
returns c =
    let done : c.args.n - c.loop.counter ≤ 0 = omega arith in
    search nodes_twice_done
