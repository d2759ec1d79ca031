use Rattle.std.proofs.Common.{arith, ◌≡◌, ◌-◌, ◌+◌, ◌<◌, ◌≤◌}
use Rattle.image_pending.specs.Ways.{waits_next, waits_done}
use Rattle.image_pending.proofs.count_waits.Goals as goal

pub loop-i-preserved : goal.loop-i-preserved
loop-i-preserved c =
    let more : 0 < c.args.k - c.loop-i.i = omega arith in
    let fits : c.loop-i.i + 1 + (c.args.k - c.loop-i.i) ≤ 4294967296 = omega arith in
    let rest : c.args.k - (c.loop-i.i + 1) ≡ c.args.k - c.loop-i.i - 1 = omega arith in
    (rw rest (search waits_next), omega arith)

pub returns : goal.returns
returns c =
    let done : c.args.k - c.loop-i.i ≤ 0 = omega arith in
    search waits_done
