use Rattle.std.proofs.Common.{◌-◌, ◌<◌, ◌+◌, ◌≤◌, ◌≡◌, arith}
use Rattle.free_path.specs.Steps.{other_small, others_more, others_done}
use Rattle.free_path.proofs.others.Goals as goal

pub overflow_add-found : goal.overflow_add-found
overflow_add-found c = omega (arith, other_small _ _ _ c.other-one.ensures)

pub loop-preserved : goal.loop-preserved
loop-preserved c =
    let more : 0 < c.args.n - c.loop.counter = omega arith in
    let next : c.args.n - (c.loop.counter + 1) ≡ c.args.n - c.loop.counter - 1 = omega arith in
    (rw next (search others_more), omega (arith, other_small _ _ _ c.other-one.ensures))

pub returns : goal.returns
returns c =
    let done : c.args.n - c.loop.counter ≤ 0 = omega arith in
    search others_done
