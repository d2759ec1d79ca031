use Rattle.std.proofs.Common.{◌<◌, ◌+◌, ◌-◌, ◌≤◌, ◌≡◌, refl, arith}
use Rattle.reach_names.specs.Reach as spec
use Rattle.reach_names.specs.Steps.{met, list_start, list_more, list_done}
use Rattle.reach_names.proofs.mark_list.Goals as goal

pub loop-j-init : goal.loop-j-init
loop-j-init c =
    let start : c.byte-k.result - 0 ≡ c.byte-k.result = omega arith in
    rw start (search list_start, refl, refl)

pub loop-j-preserved : goal.loop-j-preserved
loop-j-preserved c =
    let more : 0 < c.byte-k.result - c.loop-j.j = omega arith in
    let next : c.byte-k.result - (c.loop-j.j + 1) ≡ c.byte-k.result - c.loop-j.j - 1 = omega arith in
    rw next (search list_more, omega arith, omega arith)

pub returns : goal.returns
returns c =
    let done : c.byte-k.result - c.loop-j.j ≤ 0 = omega arith in
    met (spec.mark_all _ _) (search list_done)
