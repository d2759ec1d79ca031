use Rattle.std.proofs.Common.{arith, ◌≡◌, ◌-◌, ◌+◌, ◌<◌, ◌≤◌}
use Rattle.layout.specs.Layout.{next}
use Rattle.image_pending.specs.Ways.{nodes_more, nodes_done}
use Rattle.image_pending.proofs.count_nodes.Goals as goal

pub loop-n-preserved : goal.loop-n-preserved
loop-n-preserved c =
    let more : 0 < c.args.k - c.loop-n.n = omega arith in
    let after : c.loop-n.n + 1 ≡ next c.loop-n.n = omega arith in
    let rest : c.args.k - (c.loop-n.n + 1) ≡ c.args.k - c.loop-n.n - 1 = omega arith in
    (rw rest (search nodes_more), omega arith)

pub returns : goal.returns
returns c =
    let done : c.args.k - c.loop-n.n ≤ 0 = omega arith in
    search nodes_done
