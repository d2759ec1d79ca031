use Rattle.std.proofs.Common.{◌≡◌, ◌+◌, ◌-◌, ◌<◌, ◌≤◌, arith}
use Rattle.resolve_walk.specs.Walk as spec
use Rattle.resolve_walk.specs.Ways as ways
use Rattle.resolve_walk.specs.Penned.{penned}
use Rattle.resolve_walk.proofs.+tree_trees.Goals as goal

pub tree-returns-then-led-eq0 : goal.tree-returns-then-led-eq0
tree-returns-then-led-eq0 t c = penned {x = spec.tree _ _ _ _ _ _} (search ways.tree_wire)

pub tree-returns-then-d-eq0 : goal.tree-returns-then-d-eq0
tree-returns-then-d-eq0 t c = penned {x = spec.tree _ _ _ _ _ _} (search ways.tree_deep)

pub tree-returns : goal.tree-returns
tree-returns t c = penned {x = spec.tree _ _ _ _ _ _} (search ways.tree_node)

pub trees-returns-in_err-pen : goal.trees-returns-in_err-pen
trees-returns-in_err-pen t c =
    let more : 0 < c.args.n - c.loop.counter = omega arith in
    penned {x = spec.trees _ _ _ _ _ _} (rw c.from_residual.ensures (search (ways.trees_deep, c.in_err-pen.was)))

pub trees-loop-preserved : goal.trees-loop-preserved
trees-loop-preserved t c =
    let more : 0 < c.args.n - c.loop.counter = omega arith in
    let next : c.args.n - (c.loop.counter + 1) ≡ c.args.n - c.loop.counter - 1 = omega arith in
    rw next (search (ways.trees_more, c.in_ok-pen.was), omega arith, omega arith)

pub trees-returns : goal.trees-returns
trees-returns t c =
    let done : c.args.n - c.loop.counter ≤ 0 = omega arith in
    penned {x = spec.trees _ _ _ _ _ _} (search ways.trees_done)
