use Rattle.std.proofs.Common.{arith, ◌≡◌, ◌-◌, ◌+◌, ◌<◌, ◌≤◌}
use Rattle.marks.specs.Walks.{each_with, each_with_next, each_with_no, each_with_done}
use Rattle.words.specs.Left.{left}
use Rattle.image_waits.proofs.each_net_holds.Goals as goal

pub returns-then-not-net_holds : goal.returns-then-not-net_holds
returns-then-not-net_holds c =
    let more : 0 < c.args.k - c.loop-i.i = omega arith in
    left {x = each_with _ _ _ _} (search each_with_no)

pub loop-i-preserved : goal.loop-i-preserved
loop-i-preserved c =
    let more : 0 < c.args.k - c.loop-i.i = omega arith in
    let fits : c.loop-i.i + 1 + (c.args.k - c.loop-i.i) ≤ 4294967296 = omega arith in
    let next : c.args.k - (c.loop-i.i + 1) ≡ c.args.k - c.loop-i.i - 1 = omega arith in
    (rw next (search each_with_next), omega arith)

pub returns : goal.returns
returns c =
    let done : c.args.k - c.loop-i.i ≤ 0 = omega arith in
    left {x = each_with _ _ _ _} (search each_with_done)
