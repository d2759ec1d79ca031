-- A tree that lies at a place ends inside the file; links lie one behind the other.
use Rattle.std.specs.Prelude.{ℕ, suc, ◌+◌, ◌<◌, ◌≤◌, ◌≡◌, refl, List, [], ◌∷◌, ◌++◌, length}
use Rattle.std.proofs.Common.{sym, ap, ◌∙◌, arith, length-append}
use Rattle.net_file.specs.Values.{Name, Tree, wire, node, Trees, more, listed}
use Rattle.net_file.specs.Values
use Rattle.net_file.specs.Write.{write_tree, write_trees}
use Rattle.stored_tree.specs.Tree.{child_count_at}
use Rattle.ends.specs.Ends.{name_past}
use Rattle.resolve_pass.specs.Pass.{tree_end}
use Rattle.spelt_trees.specs.Lies.{Lies, LieAll}
use Rattle.spelt_trees.specs.Scanned.{wire_long, node_long, lies_end}

module _ (s : List ℕ) (n : ℕ) where
  mutual
    unfolding Lies write_tree

    pub lies_room : (t : Tree) (at : ℕ) → Lies s n t at → at + length (write_tree t) ≤ length s
    lies_room (wire w) at k = let r = k.room in omega (arith, wire_long w)
    lies_room (node m ts) at k =
        omega (arith, node_long m ts, k.0.end, all_room ts (child_count_at s at + 1) k.0.room k.1)

    pub all_room : (ts : Trees) (at : ℕ) → at ≤ length s → LieAll s n ts at → at + length (write_trees ts) ≤ length s
    all_room Values.none at l k = omega arith
    all_room (more t ts) at l k =
        omega (arith, length-append (write_tree t) (write_trees ts), all_room ts (at + length (write_tree t)) (lies_room t at k.0) k.1)

  -- the scan finds where it ends
  pub end_is : (t : Tree) (at : ℕ) → Lies s n t at → tree_end s at ≡ at + length (write_tree t)
  unfolding tree_end
  end_is t at k = lies_end s n t at k (lies_room t at k)

  -- a node's place is one of a word
  pub node_small : (m : Name) (ts : Trees) (at : ℕ) → Lies s n (node m ts) at → at + 13 ≤ length s
  unfolding Lies child_count_at
  node_small m ts at k = let r = k.0.room in omega (arith, name_past s (at + 1))

  -- links, each two trees
  unfoldable pub LinksLie : List (Tree × Tree) → ℕ → Type 0
  LinksLie [] at = Unit {0}
  LinksLie (p ∷ ps) at =
      Lies s n p.0 at × Lies s n p.1 (at + length (write_tree p.0)) × LinksLie ps (at + length (write_tree p.0) + length (write_tree p.1))
