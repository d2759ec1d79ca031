use Rattle.std.proofs.Common.{◌-◌, ◌+◌, ◌<◌, ◌≤◌, ◌≡◌, arith}
use Rattle.orders_tree.specs.Names.{names_more, names_no, names_done}
use Rattle.orders_tree.proofs.names_ascend.Goals as goal

pub loop-preserved : goal.loop-preserved
loop-preserved c =
    let more : 0 < c.args.n - c.loop.counter = omega arith in
    let next : c.args.n - (c.loop.counter + 1) ≡ c.args.n - c.loop.counter - 1 = omega arith in
    rw next (search names_more)

pub returns-then-not-name_fits : goal.returns-then-not-name_fits
returns-then-not-name_fits c =
    let more : 0 < c.args.n - c.loop.counter = omega arith in
    search names_no

pub returns : goal.returns
returns c =
    let done : c.args.n - c.loop.counter ≤ 0 = omega arith in
    search names_done
