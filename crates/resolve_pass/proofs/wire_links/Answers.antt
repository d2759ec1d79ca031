use Rattle.std.proofs.Common.{◌-◌, ◌+◌, ◌<◌, ◌≤◌, ◌≡◌, arith}
use Rattle.resolve_pass.specs.Ways.{wire_links_more, wire_links_done}
use Rattle.resolve_pass.specs.Pass.{wire_links}
use Rattle.words.specs.Left.{left}
use Rattle.resolve_pass.proofs.wire_links.Goals as goal

pub loop-preserved : goal.loop-preserved
loop-preserved c =
    let more : 0 < c.args.n - c.loop.counter = omega arith in
    let next : c.args.n - (c.loop.counter + 1) ≡ c.args.n - c.loop.counter - 1 = omega arith in
    rw next (search wire_links_more, omega arith)

pub returns : goal.returns
returns c =
    let done : c.args.n - c.loop.counter ≤ 0 = omega arith in
    left {x = wire_links _ _ _ _} (search wire_links_done)
