use Rattle.std.proofs.Common.{arith, ◌≡◌, ◌+◌, ◌-◌, ◌<◌, ◌≤◌}
use Rattle.wire_places.specs.Places.{nodes_more, nodes_done}
use Rattle.wire_places.proofs.mark_nodes.Goals as goal

pub loop-init : goal.loop-init
loop-init c =
    let whole : c.args.n - 0 ≡ c.args.n = omega arith in
    rw whole

pub loop-preserved : goal.loop-preserved
loop-preserved c =
    let more : 0 < c.args.n - c.loop.counter = omega arith in
    let next : c.args.n - (c.loop.counter + 1) ≡ c.args.n - c.loop.counter - 1 = omega arith in
    rw next (search nodes_more)

pub returns : goal.returns
returns c =
    let done : c.args.n - c.loop.counter ≤ 0 = omega arith in
    search nodes_done
