use Rattle.std.proofs.Common.{arith, ◌≡◌, ◌+◌, ◌-◌, ◌<◌, ◌≤◌}
use Rattle.text_writers.specs.Wrote.{still_all}
use Rattle.flat_frame.specs.Nets.{nets_more, words_more, nets_end, words_end}
use Rattle.flat_frame.proofs.nets.Goals as goal

pub loop-i-init : goal.loop-i-init
loop-i-init g c =
    let whole : c.args.n - 0 ≡ c.args.n = omega arith in
    (rw whole (still_all (omega arith) (omega arith)), rw whole)

pub loop-i-preserved : goal.loop-i-preserved
loop-i-preserved g c =
    let more : 0 < c.args.n - c.loop-i.i = omega arith in
    let next : c.args.n - (c.loop-i.i + 1) ≡ c.args.n - c.loop-i.i - 1 = omega arith in
    (rw next (search nets_more), rw next (search words_more))

pub returns : goal.returns
returns g c =
    let done : c.args.n - c.loop-i.i ≤ 0 = omega arith in
    (search nets_end, search words_end)
