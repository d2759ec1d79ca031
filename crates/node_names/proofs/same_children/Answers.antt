use native.Mathlib.Nat.{sub-zero}
use Rattle.std.proofs.Common.{◌-◌, ◌<◌, arith, ◌+◌, ◌≤◌, ◌≡◌, refl}
use Rattle.node_names.specs.Names as spec
use Rattle.node_names.specs.Steps.{numbers_more, numbers_differ, numbers_done}
use Rattle.node_names.proofs.same_children.Goals as goal

pub loop-init : goal.loop-init
unfolding spec.same_children
loop-init c = (rw sub-zero refl, omega arith, omega arith)

pub loop-preserved : goal.loop-preserved
loop-preserved c =
    let more : 0 < c.args.k - c.loop.counter = omega arith in
    let next : c.args.k - (c.loop.counter + 1) ≡ c.args.k - c.loop.counter - 1 = omega arith in
    (rw next (search numbers_more), omega arith, omega arith)

pub returns-then-be16 : goal.returns-then-be16
returns-then-be16 c =
    let more : 0 < c.args.k - c.loop.counter = omega arith in
    search numbers_differ

pub returns : goal.returns
returns c =
    let done : c.args.k - c.loop.counter ≤ 0 = omega arith in
    search numbers_done
