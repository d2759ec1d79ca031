use Rattle.layout.specs.Layout.{next}
use native.Mathlib.Nat.{sub-zero}
use Rattle.std.proofs.Common.{◌-◌, ◌+◌, ◌<◌, ◌≤◌, ◌≡◌, arith}
use Rattle.measure.specs.Ways.{slots_more, slots_done}
use Rattle.measure.specs.Measure.{with_slots, slots_size}
use Rattle.measure.proofs.slots_size.Goals as goal

pub loop-n-init : goal.loop-n-init
unfolding slots_size
loop-n-init c = rw sub-zero (cc)

pub loop-n-preserved : goal.loop-n-preserved
loop-n-preserved c =
    let more : 0 < c.get-used.result - c.loop-n.n = omega arith in
    let fewer : c.get-used.result - (c.loop-n.n + 1) ≡ c.get-used.result - c.loop-n.n - 1 = omega arith in
    let step : c.loop-n.n + 1 ≡ next c.loop-n.n = omega arith in
    rw fewer (search slots_more)

pub returns : goal.returns
returns c =
    let done : c.get-used.result - c.loop-n.n ≤ 0 = omega arith in
    search slots_done
