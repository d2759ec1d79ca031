use native.Mathlib.Nat.{sub-zero}
use Rattle.std.proofs.Common.{◌-◌, ◌+◌, ◌<◌, ◌≤◌, ◌≡◌, arith}
use Rattle.interactions.specs.Ways.{first_start, first_found, second_found, first_more, first_done}
use Rattle.interactions.proofs.stands_first.Goals as goal

pub loop-init : goal.loop-init
loop-init c = rw sub-zero (search first_start)

pub returns-then-path-p : goal.returns-then-path-p
returns-then-path-p c =
    let more : 0 < c.byte-count.result - c.loop.counter = omega arith in
    search first_found

pub returns-then-path-q : goal.returns-then-path-q
returns-then-path-q c =
    let more : 0 < c.byte-count.result - c.loop.counter = omega arith in
    search second_found

pub loop-preserved : goal.loop-preserved
loop-preserved c =
    let more : 0 < c.byte-count.result - c.loop.counter = omega arith in
    let next : c.byte-count.result - (c.loop.counter + 1) ≡ c.byte-count.result - c.loop.counter - 1 = omega arith in
    rw next (search first_more)

pub returns : goal.returns
returns c =
    let done : c.byte-count.result - c.loop.counter ≤ 0 = omega arith in
    search first_done
