use Rattle.std.proofs.Common.{arith, ◌≡◌, ◌+◌, ◌-◌, ◌<◌, ◌≤◌}
use Rattle.text_writers.specs.Wrote.{still_all}
use Rattle.pair_writers.specs.Pairs.{pairs_more, pairs_done}
use Rattle.pair_writers.proofs.pairs.Goals as goal

pub loop-init : goal.loop-init
loop-init c =
    let whole : c.args.n - 0 ≡ c.args.n = omega arith in
    rw whole (still_all (omega arith) (omega arith))

pub loop-preserved : goal.loop-preserved
loop-preserved c =
    let more : 0 < c.args.n - c.loop.counter = omega arith in
    let next : c.args.n - (c.loop.counter + 1) ≡ c.args.n - c.loop.counter - 1 = omega arith in
    rw next (search pairs_more)

pub returns : goal.returns
returns c =
    let done : c.args.n - c.loop.counter ≤ 0 = omega arith in
    search pairs_done
