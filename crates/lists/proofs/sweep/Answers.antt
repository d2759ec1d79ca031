use Rattle.std.proofs.Common.{◌-◌, ◌+◌, ◌<◌, ◌≤◌, ◌≡◌, arith, rules}
use native.Mathlib.Nat.{sub-zero}
use Rattle.lists.specs.Lists.{sweep}
use Rattle.lists.specs.Ways.{sweep_more, sweep_done}
use Rattle.lists.proofs.sweep.Goals as goal

pub loop-init : goal.loop-init
unfolding sweep
loop-init c = (rw sub-zero (cc), search rules)

pub loop-preserved : goal.loop-preserved
loop-preserved c =
    let more : 0 < c.net_word-k.result - c.loop.counter = omega arith in
    let next : c.net_word-k.result - (c.loop.counter + 1) ≡ c.net_word-k.result - c.loop.counter - 1 = omega arith in
    (rw next (search sweep_more), omega arith)

pub returns : goal.returns
returns c =
    let done : c.net_word-k.result - c.loop.counter ≤ 0 = omega arith in
    search sweep_done
