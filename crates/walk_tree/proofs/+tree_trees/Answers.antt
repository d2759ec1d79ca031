use Rattle.walk_tree.specs.Tree.{tree_count, tree_wide, tree_node, trees_more, tree_within}
use Rattle.walk_tree.proofs.+tree_trees.Goals as goal

pub tree-returns-then-s-e : goal.tree-returns-then-s-e
tree-returns-then-s-e t c = let name = c.in_ok-e.was in search tree_count

pub tree-returns-then-k-gt15 : goal.tree-returns-then-k-gt15
tree-returns-then-k-gt15 t c = let name = c.in_ok-e.was in search tree_wide

pub tree-returns : goal.tree-returns
tree-returns t c = let name = c.in_ok-e.was in search tree_node

pub trees-loop-preserved : goal.trees-loop-preserved
trees-loop-preserved t c = let next = c.in_ok-at.was in (search trees_more, search tree_within)
