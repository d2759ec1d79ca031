use Rattle.std.proofs.Common.{◌≡◌, ◌+◌, ◌-◌, ◌*◌, length}
use Rattle.resolve_walk.specs.Walk as spec
use Rattle.resolve_walk.proofs.+tree_trees.Given as goal

abbrev pub decreases-tree : goal.decreases-tree
decreases-tree l = 2 * l.d

abbrev pub decreases-trees : goal.decreases-trees
decreases-trees l = 2 * l.d + 1

abbrev pub invariant-trees-loop : goal.invariant-trees-loop
invariant-trees-loop l =
    (spec.trees (spec.tree l.s l.d) (l.n - l.counter) l.ws l.out l.at l.place ≡ spec.trees (spec.tree l.s l.d) l.n l.initial.ws l.initial.out l.from l.to) × (length l.ws ≡ length l.initial.ws) × (length l.out ≡ length l.initial.out)
