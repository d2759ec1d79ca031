use Rattle.std.proofs.Common.{◌≡◌, ◌+◌, ◌-◌, ◌*◌, ◌≤◌, length}
use Rattle.net_file.specs.Read.{times, read_tree}
use Rattle.walk.specs.After.{after}
use Rattle.walk_tree.proofs.+tree_trees.Given as goal

abbrev pub decreases-tree : goal.decreases-tree
decreases-tree l = 2 * l.d

abbrev pub decreases-trees : goal.decreases-trees
decreases-trees l = 2 * l.d + 1

abbrev pub invariant-trees-loop : goal.invariant-trees-loop
invariant-trees-loop l = (after l.at (times (l.n - l.counter) (read_tree l.paths l.names l.wires l.d)) l.s ≡ after l.from (times l.n (read_tree l.paths l.names l.wires l.d)) l.s) × (l.at ≤ length l.s)
