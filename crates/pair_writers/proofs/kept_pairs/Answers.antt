use Rattle.std.proofs.Common.{arith, ◌≡◌, ◌+◌, ◌-◌, ◌<◌, ◌≤◌}
use Rattle.pair_writers.specs.Pairs.{bit_small, count_more, count_done}
use Rattle.pair_writers.proofs.kept_pairs.Goals as goal

pub loop-j-init : goal.loop-j-init
loop-j-init c =
    let whole : c.args.n - 0 ≡ c.args.n = omega arith in
    (rw whole (omega arith), omega arith)

pub overflow_add-c : goal.overflow_add-c
overflow_add-c c = omega (arith, bit_small _ _ _ _ c.kept-c.ensures)

pub loop-j-preserved : goal.loop-j-preserved
loop-j-preserved c =
    let more : 0 < c.args.n - c.loop-j.j = omega arith in
    let next : c.args.n - (c.loop-j.j + 1) ≡ c.args.n - c.loop-j.j - 1 = omega arith in
    (rw next (search count_more), omega (arith, bit_small _ _ _ _ c.kept-c.ensures))

pub returns : goal.returns
returns c =
    let done : c.args.n - c.loop-j.j ≤ 0 = omega arith in
    search count_done
