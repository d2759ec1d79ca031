-- How a net file is written. Document 01, "The net file": numbers are big-endian.
use Rattle.std.specs.Prelude.{ℕ, zero, suc, ◌/◌, ◌%◌, ◌^◌, Bool, List, [], ◌∷◌, ◌++◌, length}
use Rattle.std.proofs.Math.Option.{Option, none, some}
use Rattle.net_file.specs.Lists.{bit, concat_map}
use Rattle.net_file.specs.Values.{Name, Rule, graft, annihilate, erase, commute, eta, FlatNode, FlatNet, Tree, wire, node, Trees, more, listed, TreeNet, File, no_limit}
use Rattle.net_file.specs.Values

-- n in k bytes
unfoldable pub be : ℕ → ℕ → List ℕ
be zero n = []
be (suc k) n = (n / (256 ^ k)) % 256 ∷ be k n

-- a count of k bytes, then each element
unfoldable pub counted : {A : Type 0} → ℕ → (A → List ℕ) → List A → List ℕ
counted k f xs = be k (length xs) ++ concat_map f xs

unfoldable pub write_path : List ℕ → List ℕ
write_path p = counted 1 (be 1) p

unfoldable pub write_name : Name → List ℕ
write_name m = be 2 m.path ++ be 8 m.payload ++ counted 1 (be 2) m.children

unfoldable pub write_list : List ℕ → List ℕ
write_list ps = counted 1 (be 2) ps

-- the tag, then what the rule names
unfoldable pub write_rule : Rule → List ℕ
write_rule (graft p lazy) = be 1 1 ++ be 2 p ++ be 1 (bit lazy)
write_rule (annihilate ps) = be 1 2 ++ write_list ps
write_rule (erase es ns) = be 1 3 ++ write_list es ++ write_list ns
write_rule (commute xs ys) = be 1 4 ++ write_list xs ++ write_list ys
write_rule (eta cs vs ns) = be 1 5 ++ write_list cs ++ write_list vs ++ write_list ns

unfoldable pub write_node : FlatNode → List ℕ
write_node n = write_name n.name ++ be 2 n.pri ++ counted 1 (be 2) n.aux

unfoldable pub write_pair : ℕ × ℕ → List ℕ
write_pair p = be 2 p.0 ++ be 2 p.1

-- name number, included, wire counter: what both kinds of net begin with
unfoldable pub write_head : ℕ → Bool → ℕ → List ℕ
write_head name included wires = be 2 name ++ be 1 (bit included) ++ be 4 wires

unfoldable pub write_flat_net : FlatNet → List ℕ
write_flat_net n =
    write_head n.name n.included n.wires
    ++ counted 1 (be 2) n.free ++ counted 2 write_pair n.pairs ++ counted 2 write_node n.nodes

-- a wire, or a node with its children
unfoldable mutual
  pub write_tree : Tree → List ℕ
  write_tree (wire w) = be 1 0 ++ be 2 w
  write_tree (node m ts) = be 1 1 ++ write_name m ++ be 1 (length (listed ts)) ++ write_trees ts

  pub write_trees : Trees → List ℕ
  write_trees Values.none = []
  write_trees (more t ts) = write_tree t ++ write_trees ts

unfoldable pub write_link : Tree × Tree → List ℕ
write_link l = write_tree l.0 ++ write_tree l.1

unfoldable pub write_tree_net : TreeNet → List ℕ
write_tree_net n =
    write_head n.name n.included n.wires ++ counted 1 write_tree n.free ++ counted 2 write_link n.links

unfoldable pub limit_number : Option ℕ → ℕ
limit_number none = no_limit
limit_number (some n) = n

-- all that follows the length: version, limit, paths, names, rules, nets
unfoldable pub write_body : {Net : Type 0} → ℕ → (Net → List ℕ) → File Net → List ℕ
write_body version write_net f =
    be 1 version ++ be 4 (limit_number f.limit) ++ counted 2 write_path f.paths
    ++ counted 2 write_name f.names ++ counted 2 write_rule f.rules ++ counted 2 write_net f.nets
