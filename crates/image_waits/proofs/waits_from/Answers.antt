use Rattle.std.proofs.Common.{arith, ◌≡◌, ◌-◌, ◌+◌, ◌<◌, ◌≤◌}
use Rattle.image_waits.specs.Waits.{waits_from}
use Rattle.image_waits.specs.Ways.{waits_more, waits_end, waits_done}
use Rattle.words.specs.Left.{left}
use Rattle.image_waits.proofs.waits_from.Goals as goal

pub returns-then-not-is_wait : goal.returns-then-not-is_wait
returns-then-not-is_wait c =
    let more : 0 < c.args.k - c.loop.counter = omega arith in
    left {x = waits_from _ _ _ _ _ _} (search waits_end)

pub loop-preserved : goal.loop-preserved
loop-preserved c =
    let more : 0 < c.args.k - c.loop.counter = omega arith in
    let next : c.args.k - (c.loop.counter + 1) ≡ c.args.k - c.loop.counter - 1 = omega arith in
    (rw next (search waits_more), omega arith)

pub returns : goal.returns
returns c =
    let done : c.args.k - c.loop.counter ≤ 0 = omega arith in
    left {x = waits_from _ _ _ _ _ _} (search waits_done)
