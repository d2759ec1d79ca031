use Rattle.layout.specs.Layout.{next}
use Rattle.std.proofs.Common.{◌-◌, ◌+◌, ◌<◌, ◌≤◌, ◌≡◌, arith, rules}
use Rattle.words.specs.Left.{left}
use Rattle.visit.specs.Ways.{tries_none, tries_more, tries_acted, tries_refused, tries_done}
use Rattle.visit.specs.Visits as Spec
use Rattle.visit.proofs.tries.Goals as goal

pub returns-then-set-eq0 : goal.returns-then-set-eq0
returns-then-set-eq0 c =
    let more : 0 < 64 - c.loop-r.r = omega arith in
    left {x = Spec.tries _ _ _ _ _ _ _} (search tries_none)

pub returns-in-Acted : goal.returns-in-Acted
returns-in-Acted c =
    let more : 0 < 64 - c.loop-r.r = omega arith in
    left {x = Spec.tries _ _ _ _ _ _ _} (search tries_acted)

pub returns-in-Refused : goal.returns-in-Refused
returns-in-Refused c =
    let more : 0 < 64 - c.loop-r.r = omega arith in
    left {x = Spec.tries _ _ _ _ _ _ _} (search tries_refused)

pub loop-r-preserved : goal.loop-r-preserved
loop-r-preserved c =
    let more : 0 < 64 - c.loop-r.r = omega arith in
    let fewer : 64 - (c.loop-r.r + 1) ≡ 64 - c.loop-r.r - 1 = omega arith in
    let step : c.loop-r.r + 1 ≡ next c.loop-r.r = omega arith in
    (rw fewer (search tries_more), omega arith)

pub returns : goal.returns
returns c =
    let done : 64 - c.loop-r.r ≤ 0 = omega arith in
    left {x = Spec.tries _ _ _ _ _ _ _} (search tries_done)
