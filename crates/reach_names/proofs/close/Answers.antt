use Rattle.std.proofs.Common.{◌<◌, ◌+◌, ◌-◌, ◌≤◌, ◌≡◌, arith}
use Rattle.reach_names.specs.Steps.{close_more, rest_marks, rest_order, done_marks, done_order}
use Rattle.reach_names.proofs.close.Goals as goal

pub returns-then-c-h : goal.returns-then-c-h
returns-then-c-h c =
    let more : 0 < 1024 - c.loop-h.h = omega arith in
    (search rest_marks, search rest_order)

pub loop-h-preserved : goal.loop-h-preserved
loop-h-preserved c =
    let more : 0 < 1024 - c.loop-h.h = omega arith in
    let next : 1024 - (c.loop-h.h + 1) ≡ 1024 - c.loop-h.h - 1 = omega arith in
    rw next (search close_more, omega arith, omega arith)

pub returns : goal.returns
returns c =
    let done : 1024 - c.loop-h.h ≤ 0 = omega arith in
    (search done_marks, search done_order)
