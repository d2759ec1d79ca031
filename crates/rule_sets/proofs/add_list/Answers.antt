use native.Mathlib.Nat.{sub-zero}
use Rattle.std.proofs.Common.{◌-◌, ◌+◌, ◌<◌, ◌≤◌, ◌≡◌, arith, rules}
use Rattle.rule_sets.specs.Steps.{list_start, list_more, list_done}
use Rattle.rule_sets.proofs.add_list.Goals as goal

pub loop-init : goal.loop-init
loop-init c = (rw sub-zero (search list_start), search rules)

pub loop-preserved : goal.loop-preserved
loop-preserved c =
    let more : 0 < c.byte-count.result - c.loop.counter = omega arith in
    let next : c.byte-count.result - (c.loop.counter + 1) ≡ c.byte-count.result - c.loop.counter - 1 = omega arith in
    (rw next (search list_more), omega arith)

pub returns : goal.returns
returns c =
    let done : c.byte-count.result - c.loop.counter ≤ 0 = omega arith in
    search list_done
