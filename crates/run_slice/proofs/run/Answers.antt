use Rattle.std.proofs.Common.{◌-◌, ◌+◌, ◌<◌, ◌≤◌, ◌≡◌, arith, rules}
use Rattle.words.specs.Left.{left}
use Rattle.run_slice.specs.Ways.{run_more, run_rests, run_refused, run_out}
use Rattle.run_slice.specs.Run as Spec
use Rattle.run_slice.proofs.run.Goals as goal

pub returns-in-Rest : goal.returns-in-Rest
returns-in-Rest c =
    let more : 0 < c.args.fuel - c.loop.counter = omega arith in
    left {x = Spec.run _ _ _ _ _ _} (search run_rests)

pub returns-in-Refused : goal.returns-in-Refused
returns-in-Refused c =
    let more : 0 < c.args.fuel - c.loop.counter = omega arith in
    left {x = Spec.run _ _ _ _ _ _} (search run_refused)

pub loop-preserved : goal.loop-preserved
loop-preserved c =
    let more : 0 < c.args.fuel - c.loop.counter = omega arith in
    let next : c.args.fuel - (c.loop.counter + 1) ≡ c.args.fuel - c.loop.counter - 1 = omega arith in
    (rw next (search run_more), omega arith)

pub returns : goal.returns
returns c =
    let done : c.args.fuel - c.loop.counter ≤ 0 = omega arith in
    left {x = Spec.run _ _ _ _ _ _} (search run_out)
