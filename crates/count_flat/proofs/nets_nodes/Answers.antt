use Rattle.std.proofs.Common.{◌-◌, ◌<◌, ◌≡◌, ◌+◌, ◌≤◌, arith}
use Rattle.count_flat.specs.Count.{nodes_more, nodes_done}
use Rattle.count_flat.proofs.nets_nodes.Goals as goal

pub loop-i-init : goal.loop-i-init
loop-i-init c =
    let start : c.args.n - 0 ≡ c.args.n = omega arith in
    (rw start (omega arith), omega arith)

pub loop-i-preserved : goal.loop-i-preserved
loop-i-preserved c =
    let more : 0 < c.args.n - c.loop-i.i = omega arith in
    let next : c.args.n - (c.loop-i.i + 1) ≡ c.args.n - c.loop-i.i - 1 = omega arith in
    (rw next (search nodes_more), omega arith)

pub returns : goal.returns
returns c =
    let done : c.args.n - c.loop-i.i ≤ 0 = omega arith in
    search nodes_done
