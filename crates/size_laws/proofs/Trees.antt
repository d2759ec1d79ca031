-- How long a tree file can be: by the wires that its trees end in, and by its nodes, of which there are at most 4,096.
use Rattle.std.specs.Prelude.{ℕ, zero, suc, ◌+◌, ◌*◌, ◌≤◌, ◌≡◌, refl, List, [], ◌∷◌, ◌++◌, map, length}
use Rattle.std.proofs.Common.{arith, mul-suc, sym, ap, ◌∙◌}
use Rattle.std.proofs.Math.Nat.{mul-le-mul_left}
use Rattle.std.proofs.Math.ListN.{length-append}
use Rattle.net_file.specs.Lists.{concat_map, sum}
use Rattle.net_file.specs.Values.{Tree, wire, node, Trees, more, listed, TreeNet, File}
use Rattle.net_file.specs.Values
use Rattle.net_file.specs.Checks.{tree, nodes_of, nodes_of_all, trees_of}
use Rattle.net_file.specs.Write.{be, counted, write_name, write_tree, write_trees, write_link, write_tree_net, write_head}
use Rattle.net_file_laws.specs.Exact.{Each}
use Rattle.net_file_laws.specs.Trees.{TreeFits, LinkFits, TreeNetFits}
use Rattle.net_file_laws.specs.Body.{LimitFits, TablesFit}
use Rattle.net_file_laws.specs.RoundTrip.{FileFits}
use Rattle.size_laws.specs.Parts.{be_length, both_size, three_size, number_size, name_size, head_size}
use Rattle.size_laws.proofs.Files.{body_size}
use Rattle.size_laws.specs.Trees.{all_size, nodes_apart}

module _ (paths names wires : ℕ) where
  mutual
    unfolding TreeFits write_tree nodes_of

    pub tree_size : (t : Tree) (d : ℕ) → TreeFits paths names wires d t → length (write_tree t) ≤ 3 + 74 * nodes_of t
    tree_size (wire w) zero h = omega (arith, both_size (be 1 0) (be 2 w) 1 2 (number_size 1 0) (number_size 2 w))
    tree_size (node m ts) zero h = absurd h
    tree_size (wire w) (suc d) h = omega (arith, both_size (be 1 0) (be 2 w) 1 2 (number_size 1 0) (number_size 2 w))
    tree_size (node m ts) (suc d) h =
        let a = three_size (be 1 1) (write_name m) (be 1 (length (listed ts))) 1 27 1 (number_size 1 1) (name_size paths names m h.0) (number_size 1 (length (listed ts))) in
        let b = trees_size ts d h.2 in
        omega (arith, length-append (be 1 1 ++ write_name m ++ be 1 (length (listed ts))) (write_trees ts), a, b, h.1)

    trees_size : (ts : Trees) (d : ℕ) → Each (TreeFits paths names wires d) (listed ts) → length (write_trees ts) ≤ 3 * length (listed ts) + 74 * nodes_of_all ts
    trees_size Values.none d h = omega arith
    trees_size (more t ts) d h = omega (arith, length-append (write_tree t) (write_trees ts), tree_size t d h.0, trees_size ts d h.1)

  link_size : (l : Tree × Tree) → LinkFits paths names wires l → length (write_link l) ≤ 6 + 74 * (nodes_of l.0 + nodes_of l.1)
  unfolding write_link
  link_size l h = omega (arith, length-append (write_tree l.0) (write_tree l.1), tree_size l.0 64 h.0, tree_size l.1 64 h.1)

tree_net_size : (paths names : ℕ) (n : TreeNet) → TreeNetFits paths names n → length (write_tree_net n) ≤ 393262 + 74 * sum (map nodes_of (trees_of n))
unfolding write_tree_net trees_of
tree_net_size paths names n h =
    let hd = write_head n.name n.included n.wires in
    let fs = counted 1 write_tree n.free in
    let ls = counted 2 write_link n.links in
    let a = all_size write_tree (TreeFits paths names n.wires 64) nodes_of 3 (λ t. tree_size paths names n.wires t 64) 1 14 n.free h.few_free h.free in
    let b = all_size write_link (LinkFits paths names n.wires) (λ l. nodes_of l.0 + nodes_of l.1) 6 (link_size paths names n.wires) 2 65535 n.links h.few_links h.links in
    omega (arith, length-append (hd ++ fs) ls, length-append hd fs, head_size n.name n.included n.wires, a, b, nodes_apart n.free n.links)

-- a tree file has less than 106 million bytes
pub tree_fits : (f : File TreeNet) → LimitFits f.limit → TablesFit tree TreeNetFits f → FileFits tree TreeNetFits f
tree_fits f l t = record { limit = l; tables = t; size = omega (arith, body_size tree TreeNetFits f t 100978178 nets) }
  where
    nets : length (counted 2 write_tree_net f.nets) ≤ 100978178
    nets = omega (arith, all_size write_tree_net (TreeNetFits (length f.paths) (length f.names)) (λ n. sum (map nodes_of (trees_of n))) 393262 (tree_net_size (length f.paths) (length f.names)) 2 256 f.nets t.few_nets t.nets, t.few_nodes)
