use Rattle.std.proofs.Common.{◌-◌, ◌<◌, ◌+◌, ◌≤◌, ◌≡◌, arith}
use Rattle.name_table.specs.Steps.{sort_more, sort_done, parts}
use Rattle.name_table.proofs.sort_names.Goals as goal

pub loop-m-preserved : goal.loop-m-preserved
loop-m-preserved c =
    let more : 0 < c.args.n - c.loop-m.m = omega arith in
    let next : c.args.n - (c.loop-m.m + 1) ≡ c.args.n - c.loop-m.m - 1 = omega arith in
    rw next (search sort_more, omega arith, omega arith)

pub returns : goal.returns
returns c =
    let done : c.args.n - c.loop-m.m ≤ 0 = omega arith in
    parts _ _ _ _ _ (search sort_done)
