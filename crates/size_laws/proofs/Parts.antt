-- How many bytes the parts of a file take.
use Rattle.std.specs.Prelude.{ℕ, zero, suc, ◌+◌, ◌*◌, ◌≤◌, ◌≡◌, refl, Bool, List, [], ◌∷◌, ◌++◌, length}
use Rattle.std.proofs.Common.{arith, mul-suc, sym, ap, ◌∙◌}
use Rattle.std.proofs.Math.Nat.{mul-le-mul_left}
use Rattle.std.proofs.Math.ListN.{length-append}
use Rattle.net_file.specs.Lists.{concat_map, bit}
use Rattle.net_file.specs.Values.{Name, Rule, graft, annihilate, erase, commute, eta, FlatNode, FlatNet}
use Rattle.net_file.specs.Write.{be, counted, write_path, write_name, write_list, write_rule, write_node, write_pair, write_head, write_flat_net}
use Rattle.net_file_laws.specs.Exact.{Each, EachFrom}
use Rattle.net_file_laws.specs.Parts.{PathFits, NameFits}
use Rattle.net_file_laws.specs.Rules.{ListFits, RuleFits}
use Rattle.net_file_laws.specs.Flat.{PairFits, NodeFits, FlatNetFits}
use Rattle.size_laws.specs.Parts.{counted_size, numbers_size, both_size, number_size, three_size, name_size, head_size, pair_size}

pub node_size : (paths names wires : ℕ) (n : FlatNode) → NodeFits paths names wires n → length (write_node n) ≤ 60
unfolding write_node
node_size paths names wires n h =
    three_size (write_name n.name) (be 2 n.pri) (counted 1 (be 2) n.aux) 27 2 31
    (name_size paths names n.name h.name) (number_size 2 n.pri) (numbers_size 2 1 15 n.aux h.few)

pub flat_net_size : (paths names : ℕ) (n : FlatNet) → FlatNetFits paths names n → length (write_flat_net n) ≤ 507940
unfolding write_flat_net
flat_net_size paths names n h =
    let hd = write_head n.name n.included n.wires in
    let fs = counted 1 (be 2) n.free in
    let ps = counted 2 write_pair n.pairs in
    both_size (hd ++ fs ++ ps) (counted 2 write_node n.nodes) 262178 245762
    (three_size hd fs ps 7 29 262142 (head_size n.name n.included n.wires) (numbers_size 2 1 14 n.free h.few_free)
    (counted_size write_pair (PairFits n.wires) 4 (λ p f. pair_size p) 2 65535 n.pairs h.few_pairs h.pairs))
    (counted_size write_node (NodeFits paths names n.wires) 60 (λ m f. node_size paths names n.wires m f) 2 4096 n.nodes h.few_nodes h.nodes)
