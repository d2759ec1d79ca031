use Rattle.std.proofs.Common.{◌-◌, ◌+◌, ◌<◌, ◌≤◌, ◌≡◌, arith}
use Rattle.eta_values.specs.Ways.{values_more, values_not, values_done}
use Rattle.eta_values.proofs.all_values.Goals as goal

pub loop-preserved : goal.loop-preserved
loop-preserved c =
    let more : 0 < c.args.k - c.loop.counter = omega arith in
    let next : c.args.k - (c.loop.counter + 1) ≡ c.args.k - c.loop.counter - 1 = omega arith in
    rw next (search values_more)

pub returns-then-not-is_value : goal.returns-then-not-is_value
returns-then-not-is_value c =
    let more : 0 < c.args.k - c.loop.counter = omega arith in
    search values_not

pub returns : goal.returns
returns c =
    let done : c.args.k - c.loop.counter ≤ 0 = omega arith in
    search values_done
