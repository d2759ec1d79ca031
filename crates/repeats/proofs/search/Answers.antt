use Rattle.std.proofs.Common.{◌-◌, ◌+◌, ◌<◌, ◌≤◌, ◌≡◌, arith}
use Rattle.repeats.specs.Repeats as spec
use Rattle.repeats.specs.Steps.{search_more, search_done}
use Rattle.repeats.proofs.search.Goals as goal

pub loop-preserved : goal.loop-preserved
loop-preserved c =
    let more : 0 < 11 - c.loop.counter = omega arith in
    let next : 11 - (c.loop.counter + 1) ≡ 11 - c.loop.counter - 1 = omega arith in
    rw next (search search_more)

pub returns : goal.returns
unfolding spec.search
returns c =
    let done : 11 - c.loop.counter ≤ 0 = omega arith in
    search search_done
