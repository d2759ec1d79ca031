-- What the writers' contracts are stated by, beyond net_file: a node from its fields, and two heads that net_file writes only with what follows them.
use Rattle.std.specs.Prelude.{ℕ, ◌≡◌, refl, List, ◌++◌, length}
use Rattle.std.proofs.Common.{append_assoc}
use Rattle.net_file.specs.Values.{Name, FlatNode, Trees, listed, File}
use Rattle.net_file.specs.Values
use Rattle.net_file.specs.Write.{be, counted, write_path, write_name, write_rule, write_tree, write_trees, limit_number, write_body}
use Rattle.net_file.specs.Checks.{Version, write}

abbrev pub node : Name → ℕ → List ℕ → FlatNode
node m pri aux = record { name = m; pri = pri; aux = aux }

-- the tag, the name and the child count of a tree's node with k children
unfoldable pub tree_node_head : Name → ℕ → List ℕ
tree_node_head m k = be 1 1 ++ write_name m ++ be 1 k

-- the children follow it
pub write_tree_head : (m : Name) (ts : Trees) → write_tree (Values.node m ts) ≡ tree_node_head m (length (listed ts)) ++ write_trees ts
unfolding tree_node_head write_tree
write_tree_head m ts = refl

-- length, version and limit
unfoldable pub file_head : ℕ → ℕ → ℕ → List ℕ
file_head length version limit = be 4 length ++ be 1 version ++ be 4 limit

-- the tables and the nets follow it
pub write_head : {Net : Type 0} (v : Version Net) (f : File Net)
    → write v f
    ≡ file_head (length (write_body v.version v.write_net f)) v.version (limit_number f.limit)
    ++ (counted 2 write_path f.paths ++ counted 2 write_name f.names ++ counted 2 write_rule f.rules ++ counted 2 v.write_net f.nets)
unfolding write write_body file_head
write_head v f = simp append_assoc
