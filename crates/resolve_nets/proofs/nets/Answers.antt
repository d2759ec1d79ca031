use Rattle.std.proofs.Common.{◌-◌, ◌+◌, ◌<◌, ◌≤◌, arith, ◌≡◌}
use Rattle.resolve_walk.specs.Walk.{trees}
use Rattle.resolve_walk.specs.Ways.{trees_more, trees_deep, trees_done}
use Rattle.resolve_net.specs.Net.{net}
use Rattle.resolve_nets.specs.Nets.{nets}
use Rattle.resolve_walk.specs.Penned.{penned}
use Rattle.resolve_nets.proofs.nets.Goals as goal

pub returns-in_err-pen : goal.returns-in_err-pen
unfolding nets
returns-in_err-pen c =
    let more : 0 < c.args.n - c.loop.counter = omega arith in
    penned {x = trees (net _) _ _ _ _ _} (rw c.from_residual.ensures (search (trees_deep, c.in_err-pen.was)))

pub loop-preserved : goal.loop-preserved
loop-preserved c =
    let more : 0 < c.args.n - c.loop.counter = omega arith in
    let next : c.args.n - (c.loop.counter + 1) ≡ c.args.n - c.loop.counter - 1 = omega arith in
    rw next (search (trees_more, c.in_ok-pen.was), omega arith, omega arith)

pub returns : goal.returns
unfolding nets
returns c =
    let done : c.args.n - c.loop.counter ≤ 0 = omega arith in
    penned {x = trees (net _) _ _ _ _ _} (search trees_done)
