-- How long a tree file can be: by the wires that its trees end in, and by its nodes, of which there are at most 4,096.
use Rattle.std.specs.Prelude.{ℕ, zero, suc, ◌+◌, ◌*◌, ◌≤◌, ◌≡◌, refl, List, [], ◌∷◌, ◌++◌, map, length}
use Rattle.std.proofs.Common.{arith, mul-suc, sym, ap, ◌∙◌}
use Rattle.std.proofs.Math.Nat.{mul-le-mul_left}
use Rattle.std.proofs.Math.ListN.{length-append}
use Rattle.net_file.specs.Lists.{concat_map, sum}
use Rattle.net_file.specs.Values.{Tree, wire, node, Trees, more, listed, TreeNet, File}
use Rattle.net_file.specs.Values
use Rattle.net_file.specs.Checks.{tree, nodes_of, nodes_of_all, trees_of}
use Rattle.net_file.specs.Write.{be, counted, write_name, write_tree, write_trees, write_link, write_tree_net, write_head}
use Rattle.net_file_laws.specs.Exact.{Each}
use Rattle.net_file_laws.specs.Trees.{TreeFits, LinkFits, TreeNetFits}
use Rattle.net_file_laws.specs.Body.{LimitFits, TablesFit}
use Rattle.net_file_laws.specs.RoundTrip.{FileFits}
use Rattle.size_laws.specs.Parts.{be_length, both_size, three_size, number_size, name_size, head_size}

-- elements of at most k bytes and 74 more for each of their nodes
module _ {A : Type 0} (w : A → List ℕ) (F : A → Type 0) (g : A → ℕ) (k : ℕ) (most : (x : A) → F x → length (w x) ≤ k + 74 * g x) where
  pub each_size : (xs : List A) → Each F xs → length (concat_map w xs) ≤ k * length xs + 74 * sum (map g xs)
  each_size [] h = omega arith
  each_size (x ∷ xs) h =
      omega (arith, length-append (w x) (concat_map w xs), most x h.0, each_size xs h.1, mul-suc k (length xs))

  pub all_size : (j n : ℕ) (xs : List A) → length xs ≤ n → Each F xs → length (counted j w xs) ≤ j + k * n + 74 * sum (map g xs)
  unfolding counted
  all_size j n xs l h =
      omega (arith, length-append (be j (length xs)) (concat_map w xs), be_length j (length xs), each_size xs h, mul-le-mul_left k l)

-- the nodes of free trees and of links
pub nodes_apart : (fs : List Tree) (ls : List (Tree × Tree))
    → sum (map nodes_of (fs ++ concat_map (λ l. l.0 ∷ l.1 ∷ []) ls)) ≡ sum (map nodes_of fs) + sum (map (λ (l : Tree × Tree). nodes_of l.0 + nodes_of l.1) ls)
nodes_apart [] [] = refl
nodes_apart [] (l ∷ ls) = omega (arith, nodes_apart [] ls)
nodes_apart (f ∷ fs) ls = omega (arith, nodes_apart fs ls)
