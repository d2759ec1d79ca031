use Rattle.std.proofs.Common.{arith, ◌≡◌, ◌-◌, ◌+◌, ◌<◌, ◌≤◌}
use Rattle.image_dirty.specs.Dirty.{meet_all}
use Rattle.image_dirty.specs.Ways.{meet_more, meet_done}
use Rattle.layout.specs.Layout.{next}
use Rattle.words.specs.Left.{left}
use Rattle.image_dirty.proofs.meet_all.Goals as goal

pub loop-i-preserved : goal.loop-i-preserved
loop-i-preserved c =
    let more : 0 < c.args.k - c.loop-i.i = omega arith in
    let after : c.loop-i.i + 1 ≡ next c.loop-i.i = omega arith in
    let rest : c.args.k - (c.loop-i.i + 1) ≡ c.args.k - c.loop-i.i - 1 = omega arith in
    (rw rest (search meet_more), omega arith)

pub returns : goal.returns
returns c =
    let done : c.args.k - c.loop-i.i ≤ 0 = omega arith in
    left {x = meet_all _ _ _ _ _} (search meet_done)
