-- The checks 2 to 8 in their order, each over the whole file before the next. Document 01, "The numbers it refuses by".
use Rattle.std.specs.Prelude.{ℕ, zero, suc, ◌+◌, ◌*◌, ◌-◌, Bool, true, false, not, ◌&&◌, ◌||◌, List, [], ◌∷◌, ◌++◌, map, length, get_or, take, drop, eqb, leb, ltb}
use Rattle.std.proofs.Math.Option.{Option, none, some}
use Rattle.net_file.specs.Lists.{Result, ok, refuse, need, all, any, count, distinct, eqs, concat_map, sum, ascend}
use Rattle.net_file.specs.Values.{Name, Rule, graft, annihilate, erase, commute, eta, FlatNode, FlatNet, Tree, wire, node, Trees, more, TreeNet, File, free_path, max_steps, no_limit}
use Rattle.net_file.specs.Values
use Rattle.net_file.specs.Read.{Parser, number, read_flat_net, read_tree_net, read_body}
use Rattle.net_file.specs.Write.{be, write_flat_net, write_tree_net, write_body}

-- what differs between the two versions
pub record Version (Net : Type 0) : Type 0 where
  pub version : ℕ
  pub read_net : ℕ → ℕ → Parser Net
  pub write_net : Net → List ℕ
  pub nodes : Net → ℕ
  pub name_of : Net → ℕ
  pub pairs_ordered : Net → Bool
  pub well_wired : Net → Bool

-- ---- 6: repeats and orders

unfoldable pub same_name : Name → Name → Bool
same_name m n = eqb m.path n.path && eqb m.payload n.payload && eqs m.children n.children

-- both wires of each pair, one after the other
unfoldable pub pair_wires : List (ℕ × ℕ) → List ℕ
pair_wires ps = concat_map (λ p. p.0 ∷ p.1 ∷ []) ps

-- a pair has its smaller wire first, pairs ascend by it, no wire is in two
unfoldable pub pairs_ordered : List (ℕ × ℕ) → Bool
pairs_ordered ps = all (λ p. ltb p.0 p.1) ps && ascend (map (λ p. p.0) ps) && distinct eqb (pair_wires ps)

-- ---- 7: well wired

-- how often a wire occurs in a list
unfoldable pub occurs : ℕ → List ℕ → ℕ
occurs w ws = count (eqb w) ws

-- the free and node places of a flat net
unfoldable pub places : FlatNet → List ℕ
places n = n.free ++ concat_map (λ m. m.pri ∷ m.aux) n.nodes

-- of a pair, both wires occur once or neither occurs
unfoldable pub pair_wired : List ℕ → ℕ × ℕ → Bool
pair_wired ws p =
    let a = occurs p.0 ws in
    let b = occurs p.1 ws in
    eqb a 1 && eqb b 1 || eqb a 0 && eqb b 0

-- a wire in no pair occurs twice or never
unfoldable pub wire_wired : List ℕ → List (ℕ × ℕ) → ℕ → Bool
wire_wired ws ps w = any (eqb w) (pair_wires ps) || eqb (occurs w ws) 2

unfoldable pub flat_wired : FlatNet → Bool
flat_wired n = all (pair_wired (places n)) n.pairs && all (wire_wired (places n) n.pairs) (places n)

-- the wires of a tree, left to right
unfoldable mutual
  pub wires_of : Tree → List ℕ
  wires_of (wire w) = w ∷ []
  wires_of (node m ts) = wires_of_all ts

  pub wires_of_all : Trees → List ℕ
  wires_of_all Values.none = []
  wires_of_all (more t ts) = wires_of t ++ wires_of_all ts

-- and its nodes
unfoldable mutual
  pub nodes_of : Tree → ℕ
  nodes_of (wire w) = 0
  nodes_of (node m ts) = suc (nodes_of_all ts)

  pub nodes_of_all : Trees → ℕ
  nodes_of_all Values.none = 0
  nodes_of_all (more t ts) = nodes_of t + nodes_of_all ts

-- the trees of a net: free, then link by link
unfoldable pub trees_of : TreeNet → List Tree
trees_of n = n.free ++ concat_map (λ l. l.0 ∷ l.1 ∷ []) n.links

-- each wire occurs twice or never over free and links
unfoldable pub tree_wired : TreeNet → Bool
tree_wired n = let ws = concat_map wires_of (trees_of n) in all (λ w. eqb (occurs w ws) 2) ws

-- ---- 8: a rule names the free path

unfoldable pub rule_paths : Rule → List ℕ
rule_paths (graft p lazy) = p ∷ []
rule_paths (annihilate ps) = ps
rule_paths (erase es ns) = es ++ ns
rule_paths (commute xs ys) = xs ++ ys
rule_paths (eta cs vs ns) = cs ++ vs ++ ns

unfoldable pub names_free : List (List ℕ) → Rule → Bool
names_free paths r = any (λ p. eqs free_path (get_or paths p [])) (rule_paths r)

-- ---- the two versions

abbrev pub flat : Version FlatNet
flat = record {
  version = 1;
  read_net = read_flat_net;
  write_net = write_flat_net;
  nodes = λ n. length n.nodes;
  name_of = λ n. n.name;
  pairs_ordered = λ n. pairs_ordered n.pairs;
  well_wired = flat_wired;
}

abbrev pub tree : Version TreeNet
tree = record {
  version = 65;
  read_net = read_tree_net;
  write_net = write_tree_net;
  nodes = λ n. sum (map nodes_of (trees_of n));
  name_of = λ n. n.name;
  pairs_ordered = λ n. true;
  well_wired = tree_wired;
}

-- ---- the checks in order

-- none, or at most 16,777,216
unfoldable pub limit_fits : ℕ → Bool
limit_fits n = eqb n no_limit || leb n max_steps

-- the number that k bytes from place i on make
unfoldable pub field : ℕ → ℕ → List ℕ → ℕ
field i k bs = elim (number k (drop i bs)) [ none ↦ 0 | some r ↦ r.0 ]

module _ {Net : Type 0} (v : Version Net) where
  unfoldable pub ordered : File Net → Bool
  ordered f =
      distinct eqs f.paths && distinct same_name f.names
      && ascend (map v.name_of f.nets) && all v.pairs_ordered f.nets

  unfoldable pub wired : File Net → Bool
  wired f = all v.well_wired f.nets

  unfoldable pub free_named : File Net → Bool
  free_named f = any (names_free f.paths) f.rules

  -- 6, 7, 8 of what 5 let pass
  unfoldable pub checked : Option (File Net × List ℕ) → Result (File Net)
  checked none = refuse 5
  checked (some r) = let f = r.0 in need (ordered f) 6 (need (wired f) 7 (need (not (free_named f)) 8 (ok f)))

  -- 2: under 5 bytes, or length field wrong; 3: the version; 4: the limit, where its 4 bytes are there
  unfoldable pub read : List ℕ → Result (File Net)
  read bs =
      need (leb 5 (length bs) && eqb (field 0 4 bs) (length bs - 4)) 2
      (need (eqb (field 4 1 bs) v.version) 3
      (need (ltb (length bs) 9 || limit_fits (field 5 4 bs)) 4
      (checked (read_body v.read_net v.nodes (drop 5 bs)))))

  unfoldable pub write : File Net → List ℕ
  write f = let b = write_body v.version v.write_net f in be 4 (length b) ++ b
