use Rattle.std.proofs.Common.{◌-◌, ◌+◌, ◌<◌, ◌≤◌, ◌≡◌, arith}
use Rattle.words.specs.Left.{left}
use Rattle.graft.specs.Ways.{entries_more, entries_refused, entries_done}
use Rattle.graft.specs.Graft.{copy_entries}
use Rattle.graft.proofs.copy_entries.Goals as goal

pub returns-then-r-gt0 : goal.returns-then-r-gt0
returns-then-r-gt0 c =
    let more : 0 < c.args.count - c.loop.counter = omega arith in
    left {x = copy_entries _ _ _ _} (search entries_refused)

pub loop-preserved : goal.loop-preserved
loop-preserved c =
    let more : 0 < c.args.count - c.loop.counter = omega arith in
    let next : c.args.count - (c.loop.counter + 1) ≡ c.args.count - c.loop.counter - 1 = omega arith in
    (rw next (search entries_more), omega arith)

pub returns : goal.returns
returns c =
    let done : c.args.count - c.loop.counter ≤ 0 = omega arith in
    left {x = copy_entries _ _ _ _} (search entries_done)
