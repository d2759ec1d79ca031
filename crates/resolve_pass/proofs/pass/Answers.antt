use Rattle.std.proofs.Common.{◌-◌, ◌+◌, ◌<◌, ◌≤◌, ◌≡◌, arith}
use Rattle.resolve_pass.specs.Ways.{pass_more, pass_done}
use Rattle.resolve_pass.specs.Pass.{pass}
use Rattle.words.specs.Left.{left}
use Rattle.resolve_pass.proofs.pass.Goals as goal

pub loop-preserved : goal.loop-preserved
loop-preserved c =
    let more : 0 < c.args.n - c.loop.counter = omega arith in
    let next : c.args.n - (c.loop.counter + 1) ≡ c.args.n - c.loop.counter - 1 = omega arith in
    rw next (search pass_more, omega arith)

pub returns : goal.returns
returns c =
    let done : c.args.n - c.loop.counter ≤ 0 = omega arith in
    left {x = pass _ _ _ _ _} (search pass_done)
