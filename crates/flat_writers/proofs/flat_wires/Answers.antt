use Rattle.std.proofs.Common.{arith, ◌≡◌, ◌+◌, ◌-◌, ◌<◌, ◌≤◌}
use Rattle.text_writers.specs.Wrote.{still_all}
use Rattle.flat_writers.specs.Flat.{wires_more, wires_done}
use Rattle.flat_writers.proofs.flat_wires.Goals as goal

pub loop-j-init : goal.loop-j-init
loop-j-init c =
    let whole : c.args.n - 0 ≡ c.args.n = omega arith in
    rw whole (still_all (omega arith) (omega arith))

pub loop-j-preserved : goal.loop-j-preserved
loop-j-preserved c =
    let more : 0 < c.args.n - c.loop-j.j = omega arith in
    let next : c.args.n - (c.loop-j.j + 1) ≡ c.args.n - c.loop-j.j - 1 = omega arith in
    rw next (search wires_more)

pub returns : goal.returns
returns c =
    let done : c.args.n - c.loop-j.j ≤ 0 = omega arith in
    search wires_done
