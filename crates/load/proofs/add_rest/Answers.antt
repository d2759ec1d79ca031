use Rattle.std.proofs.Common.{◌-◌, ◌+◌, ◌<◌, ◌≤◌, ◌≡◌, arith}
use Rattle.load.specs.Added.{added}
use Rattle.load.specs.Load.{add_nodes}
use Rattle.load.specs.Ways.{nodes_more, nodes_refused, nodes_done}
use Rattle.load.proofs.add_rest.Goals as goal

pub returns-then-r-gt0 : goal.returns-then-r-gt0
returns-then-r-gt0 c =
    let more : 0 < c.args.count - c.loop.counter = omega arith in
    added {x = add_nodes _ _ _ _ _ _} (search nodes_refused)

pub loop-preserved : goal.loop-preserved
loop-preserved c =
    let more : 0 < c.args.count - c.loop.counter = omega arith in
    let next : c.args.count - (c.loop.counter + 1) ≡ c.args.count - c.loop.counter - 1 = omega arith in
    (rw next (search nodes_more), omega arith, omega arith)

pub returns : goal.returns
returns c =
    let done : c.args.count - c.loop.counter ≤ 0 = omega arith in
    added {x = add_nodes _ _ _ _ _ _} (search nodes_done)
