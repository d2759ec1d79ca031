use Rattle.std.proofs.Common.{◌+◌, ◌<◌, ◌≤◌, ◌-◌, ◌≡◌, arith}
use Rattle.reach_names.specs.Reach as spec
use Rattle.reach_names.specs.Steps.{met, nodes_more, nodes_done}
use Rattle.reach_names.proofs.mark_nodes.Goals as goal

pub loop-preserved : goal.loop-preserved
loop-preserved c =
    let more : 0 < c.args.n - c.loop.counter = omega arith in
    let next : c.args.n - (c.loop.counter + 1) ≡ c.args.n - c.loop.counter - 1 = omega arith in
    rw next (search nodes_more, omega arith, omega arith)

pub returns : goal.returns
returns c =
    let done : c.args.n - c.loop.counter ≤ 0 = omega arith in
    met (spec.mark_all _ _) (search nodes_done)
