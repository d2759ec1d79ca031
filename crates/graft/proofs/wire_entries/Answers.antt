use Rattle.std.proofs.Common.{◌-◌, ◌+◌, ◌<◌, ◌≤◌, ◌≡◌, arith}
use Rattle.graft.specs.Ways.{wire_entries_more, wire_entries_done}
use Rattle.graft.proofs.wire_entries.Goals as goal

pub loop-preserved : goal.loop-preserved
loop-preserved c =
    let more : 0 < c.args.count - c.loop.counter = omega arith in
    let next : c.args.count - (c.loop.counter + 1) ≡ c.args.count - c.loop.counter - 1 = omega arith in
    (rw next (search wire_entries_more), omega arith)

pub returns : goal.returns
returns c =
    let done : c.args.count - c.loop.counter ≤ 0 = omega arith in
    search wire_entries_done
