use Rattle.std.proofs.Common.{◌-◌, ◌+◌, ◌<◌, ◌≤◌, ◌≡◌, arith}
use Rattle.waits.specs.Ways.{answer_all_more, answer_all_none, answer_all_done}
use Rattle.waits.proofs.answer_all.Goals as goal

pub returns-then-cur-eq0 : goal.returns-then-cur-eq0
returns-then-cur-eq0 c =
    let more : 0 < c.args.k - c.loop.counter = omega arith in
    search answer_all_none

pub loop-preserved : goal.loop-preserved
loop-preserved c =
    let more : 0 < c.args.k - c.loop.counter = omega arith in
    let next : c.args.k - (c.loop.counter + 1) ≡ c.args.k - c.loop.counter - 1 = omega arith in
    (rw next (search answer_all_more), omega arith)

pub returns : goal.returns
returns c =
    let done : c.args.k - c.loop.counter ≤ 0 = omega arith in
    search answer_all_done
