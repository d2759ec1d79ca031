use native.Mathlib.Nat.{sub-zero}
use Rattle.std.proofs.Common.{◌-◌, ◌+◌, ◌<◌, ◌≤◌, ◌≡◌, arith, rules}
use Rattle.write_nodes.specs.Wrote.{three}
use Rattle.write_nodes.specs.Ways.{entries_more, entries_done}
use Rattle.write_nodes.specs.Nodes.{write_list}
use Rattle.write_nodes.proofs.write_list.Goals as goal

pub loop-init : goal.loop-init
unfolding write_list
loop-init c = (rw sub-zero (cc), search rules, search rules)

pub loop-preserved : goal.loop-preserved
loop-preserved c =
    let more : 0 < c.net_word-count.result - c.loop.counter = omega arith in
    let next : c.net_word-count.result - (c.loop.counter + 1) ≡ c.net_word-count.result - c.loop.counter - 1 = omega arith in
    (rw next (search entries_more), omega arith, omega arith)

pub returns : goal.returns
returns c =
    let done : c.net_word-count.result - c.loop.counter ≤ 0 = omega arith in
    three {x = write_list _ _ _ _ _} (search entries_done)
