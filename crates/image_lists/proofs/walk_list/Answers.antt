use Rattle.std.proofs.Common.{arith, ◌≡◌, ◌-◌, ◌+◌, ◌<◌, ◌≤◌}
use Rattle.image_lists.specs.Lists.{walk_list}
use Rattle.image_lists.specs.Ways.{walk_more, walk_done}
use Rattle.words.specs.Left.{left}
use Rattle.image_lists.proofs.walk_list.Goals as goal

pub loop-preserved : goal.loop-preserved
loop-preserved c =
    let more : 0 < c.args.k - c.loop.counter = omega arith in
    let next : c.args.k - (c.loop.counter + 1) ≡ c.args.k - c.loop.counter - 1 = omega arith in
    (rw next (search walk_more), omega arith)

pub returns : goal.returns
returns c =
    let done : c.args.k - c.loop.counter ≤ 0 = omega arith in
    left {x = walk_list _ _ _ _ _} (search walk_done)
