use Rattle.std.proofs.Common.{◌-◌, ◌+◌, ◌<◌, ◌≤◌, ◌≡◌, arith}
use Rattle.resolve_pass.specs.Ways.{hung_more, hung_done}
use Rattle.resolve_pass.proofs.hung_links.Goals as goal

pub loop-preserved : goal.loop-preserved
loop-preserved c =
    let more : 0 < c.args.n - c.loop.counter = omega arith in
    let next : c.args.n - (c.loop.counter + 1) ≡ c.args.n - c.loop.counter - 1 = omega arith in
    rw next (search hung_more)

pub returns : goal.returns
returns c =
    let done : c.args.n - c.loop.counter ≤ 0 = omega arith in
    search hung_done
