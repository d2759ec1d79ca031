use Rattle.std.proofs.Common.{arith, ◌≡◌, ◌≤◌, ◌<◌, ◌+◌, ◌-◌}
use Rattle.repeats.specs.Steps.{compare_is, compare_found, compare_passed, compare_done}
use Rattle.repeats.proofs.compare_bytes.Goals as goal

pub loop-i-init : goal.loop-i-init
loop-i-init c =
    let x : c.args.a + 0 ≡ c.args.a = omega arith in
    let y : c.args.b + 0 ≡ c.args.b = omega arith in
    let z : c.args.n - 0 ≡ c.args.n = omega arith in
    rw (x, y, z) (search compare_is)

pub returns-then-is_ne : goal.returns-then-is_ne
returns-then-is_ne c =
    let more : c.loop-i.i < c.args.n = omega arith in
    search compare_found

pub loop-i-preserved : goal.loop-i-preserved
loop-i-preserved c =
    let more : c.loop-i.i < c.args.n = omega arith in
    search compare_passed

pub returns : goal.returns
returns c =
    let done : c.args.n - c.loop-i.i ≤ 0 = omega arith in
    search compare_done
