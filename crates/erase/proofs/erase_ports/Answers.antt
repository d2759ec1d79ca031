use Rattle.std.proofs.Common.{◌-◌, ◌+◌, ◌<◌, ◌≤◌, ◌≡◌, arith}
use Rattle.words.specs.Left.{left}
use Rattle.erase.specs.Ways.{ports_more, ports_refused, ports_done}
use Rattle.erase.specs.Erase.{erase_ports}
use Rattle.erase.proofs.erase_ports.Goals as goal

pub returns-in-Refused : goal.returns-in-Refused
returns-in-Refused c =
    let more : 0 < c.args.k - c.loop.counter = omega arith in
    left {x = erase_ports _ _ _ _ _} (search ports_refused)

pub loop-preserved : goal.loop-preserved
loop-preserved c =
    let more : 0 < c.args.k - c.loop.counter = omega arith in
    let next : c.args.k - (c.loop.counter + 1) ≡ c.args.k - c.loop.counter - 1 = omega arith in
    (rw next (search ports_more), omega arith)

pub returns : goal.returns
returns c =
    let done : c.args.k - c.loop.counter ≤ 0 = omega arith in
    left {x = erase_ports _ _ _ _ _} (search ports_done)
