use Rattle.std.proofs.Common.{◌-◌, ◌+◌, ◌<◌, ◌≤◌, arith, ◌≡◌}
use Rattle.embed_nets.specs.Ways.{walked_more, walked_done, hung_more, hung_done, written_more, written_done}
use Rattle.embed_nets.proofs.embed_links.Goals as goal

pub loop-preserved : goal.loop-preserved
loop-preserved c =
    let more : 0 < c.args.k - c.loop.counter = omega arith in
    let next : c.args.k - (c.loop.counter + 1) ≡ c.args.k - c.loop.counter - 1 = omega arith in
    rw next (search walked_more, search hung_more, search written_more, omega arith, omega arith)

pub returns : goal.returns
returns c =
    let done : c.args.k - c.loop.counter ≤ 0 = omega arith in
    (search walked_done, search hung_done, search written_done)
