use Rattle.std.proofs.Common.{arith, ◌≡◌, ◌-◌, ◌+◌, ◌<◌, ◌≤◌}
use Rattle.marks.specs.Walks.{chain, chain_more, chain_no, chain_ends, chain_done}
use Rattle.words.specs.Left.{left}
use Rattle.image_chains.proofs.free_hold.Goals as goal

pub returns-then-c-eq0 : goal.returns-then-c-eq0
returns-then-c-eq0 c =
    let more : 0 < c.args.k - c.loop.counter = omega arith in
    left {x = chain _ _ _ _ _ _} (search chain_ends)

pub loop-preserved : goal.loop-preserved
loop-preserved c =
    let more : 0 < c.args.k - c.loop.counter = omega arith in
    let next : c.args.k - (c.loop.counter + 1) ≡ c.args.k - c.loop.counter - 1 = omega arith in
    (rw next (search chain_more), omega arith)

pub returns-then-not-is_free : goal.returns-then-not-is_free
returns-then-not-is_free c =
    let more : 0 < c.args.k - c.loop.counter = omega arith in
    left {x = chain _ _ _ _ _ _} (search chain_no)

pub returns : goal.returns
returns c =
    let done : c.args.k - c.loop.counter ≤ 0 = omega arith in
    left {x = chain _ _ _ _ _ _} (search chain_done)
