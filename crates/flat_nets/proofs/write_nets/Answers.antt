use Rattle.std.proofs.Common.{◌-◌, ◌+◌, ◌<◌, ◌≤◌, arith, ◌≡◌}
use Rattle.flat_nets.specs.Ways.{spot_more, spot_done, words_more, words_done, out_more, out_done}
use Rattle.flat_nets.proofs.write_nets.Goals as goal

pub loop-preserved : goal.loop-preserved
loop-preserved c =
    let more : 0 < c.args.n - c.loop.counter = omega arith in
    let next : c.args.n - (c.loop.counter + 1) ≡ c.args.n - c.loop.counter - 1 = omega arith in
    rw next (search spot_more, search words_more, search out_more, omega arith, omega arith)

pub returns : goal.returns
returns c =
    let done : c.args.n - c.loop.counter ≤ 0 = omega arith in
    (search spot_done, search words_done, search out_done)
