use Rattle.std.proofs.Common.{◌-◌, ◌+◌, ◌<◌, ◌≤◌, ◌≡◌, arith}
use Rattle.ends.specs.Ends.{nodes_in, nodes_out}
use Rattle.ends.specs.Ends.{nodes_more}
use Rattle.ends.proofs.nodes_end.Goals as goal

pub loop-preserved : goal.loop-preserved
loop-preserved c =
    let more : 0 < c.args.n - c.loop.counter = omega arith in
    let next : c.args.n - (c.loop.counter + 1) ≡ c.args.n - c.loop.counter - 1 = omega arith in
    rw next (search nodes_more)

pub returns-then-s-at : goal.returns-then-s-at
returns-then-s-at c =
    let done : c.args.n - c.loop.counter ≤ 0 = omega arith in
    search nodes_out

pub returns : goal.returns
returns c =
    let done : c.args.n - c.loop.counter ≤ 0 = omega arith in
    search nodes_in
