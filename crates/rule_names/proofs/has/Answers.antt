use Rattle.std.proofs.Common.{◌-◌, ◌<◌, ◌+◌, ◌≤◌, ◌≡◌, arith}
use Rattle.rule_names.specs.Steps.{has_past, has_short, has_start, has_more, has_yes, has_done}
use Rattle.rule_names.proofs.has.Goals as goal

pub returns-then-s-from : goal.returns-then-s-from
returns-then-s-from c = search has_past

pub overflow_sub-s : goal.overflow_sub-s
overflow_sub-s c = omega arith

pub returns-then-s-from-2 : goal.returns-then-s-from-2
returns-then-s-from-2 c = search has_short

pub loop-init : goal.loop-init
loop-init c =
    let start : c.args.n - 0 ≡ c.args.n = omega arith in
    (rw start (search has_start), omega arith)

pub returns-then-x-p : goal.returns-then-x-p
returns-then-x-p c =
    let more : 0 < c.args.n - c.loop.counter = omega arith in
    search has_yes

pub overflow_add-at : goal.overflow_add-at
overflow_add-at c = omega arith

pub loop-preserved : goal.loop-preserved
loop-preserved c =
    let more : 0 < c.args.n - c.loop.counter = omega arith in
    let next : c.args.n - (c.loop.counter + 1) ≡ c.args.n - c.loop.counter - 1 = omega arith in
    (rw next (search has_more), omega arith)

pub returns : goal.returns
returns c =
    let done : c.args.n - c.loop.counter ≤ 0 = omega arith in
    search has_done
