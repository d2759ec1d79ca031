-- What `to_tree` makes of an accepted flat file is an accepted tree file.
use Prim.Native.Nat.{ℕ, zero, suc, min, ◌+◌, ◌<◌, ◌≤◌}
use Rattle.std.proofs.Common.{arith, sym, ◌∙◌, eq-eqb}
use Rattle.std.proofs.Math.Nat.{min-le_left}
use Rattle.std.specs.Prelude.{◌≡◌, Bool, true, false, not, ◌&&◌, ◌||◌, T, eqb}
use Rattle.std.proofs.Math.Path.{refl, ap, subst}
use Rattle.std.proofs.Math.Option.{Option, none, some}
use mathlib.Core.List.{List, [], ◌∷◌, ◌++◌, map}
use Rattle.std.proofs.Math.ListN.{length, length-map}
use Rattle.net_file.specs.Lists.{ok, all, concat_map, sum}
use Rattle.net_file.specs.Values.{FlatNode, FlatNet, Tree, wire, node, trees, listed, TreeNet, File}
use Rattle.net_file.specs.Checks.{flat, tree, read, write, ordered, wired, free_named, places, flat_wired, tree_wired, trees_of, wires_of, wires_of_all, nodes_of, nodes_of_all, occurs, pair_wired, wire_wired, pairs_ordered}
use Rattle.net_file_laws.specs.Bytes.{Bytes}
use Rattle.net_file_laws.specs.Exact.{Each}
use Rattle.net_file_laws.specs.Flat.{NodeFits, FlatNetFits}
use Rattle.net_file_laws.specs.Trees.{TreeFits, LinkFits, TreeNetFits, listed_trees}
use Rattle.net_file_laws.specs.Body.{TablesFit}
use Rattle.net_file_laws.specs.RoundTrip.{FileFits, Spells}
use Rattle.net_file_laws.proofs.RoundTrip.{flat_write_read, tree_read_write}
use Rattle.size_laws.proofs.Trees.{tree_fits}
use Rattle.list_laws.specs.Tests.{both, both_are}
use Rattle.conversions.specs.Links.{Links, get, canonical, links_of}
use Rattle.conversions.specs.Convert.{to_tree}
use Rattle.conversions.specs.Calls.{convert}
use Rattle.conversion_laws.specs.Back.{hung}
use Rattle.conversion_laws.specs.SameWire.{Apart, ordered_apart}
use Rattle.conversion_laws.specs.Counts.{all_mapped, numbers_twice}
use Rattle.conversion_laws.specs.Accepted.{Keeps, KeepsAll, same_ok, result_accepted}

-- a number is at most the wire's own
pub canonical_least : (l : Links) (w : ℕ) → canonical l w ≤ w
unfolding canonical
canonical_least l w = go (get l w) refl
  where
    go : (r : Option ℕ) → get l w ≡ r → canonical l w ≤ w
    go none e = rw (e, canonical) (omega arith)
    go (some b) e = rw (e, canonical) (min-le_left w b)

-- ---- its places and nodes

module _ (c : ℕ → ℕ) where
  aux_wires : (ws : List ℕ) → wires_of_all (trees (map (λ w. wire (c w)) ws)) ≡ map c ws
  unfolding wires_of
  aux_wires [] = refl
  aux_wires (w ∷ ws) = ap (λ (vs : List ℕ). c w ∷ vs) (aux_wires ws)

  aux_nodes : (ws : List ℕ) → nodes_of_all (trees (map (λ w. wire (c w)) ws)) ≡ 0
  unfolding nodes_of
  aux_nodes [] = refl
  aux_nodes (w ∷ ws) = omega (arith, aux_nodes ws)

  link_wires : (ns : List FlatNode) → concat_map wires_of (concat_map (λ l. l.0 ∷ l.1 ∷ []) (map (hung c) ns)) ≡ map c (concat_map (λ m. m.pri ∷ m.aux) ns)
  unfolding wires_of
  link_wires [] = refl
  link_wires (m ∷ ns) = rw (aux_wires m.aux) (rw (link_wires ns) (ap (λ (vs : List ℕ). c m.pri ∷ vs) (sym (mapped m.aux (concat_map (λ k. k.pri ∷ k.aux) ns)))))
    where
      mapped : (xs ys : List ℕ) → map c (xs ++ ys) ≡ map c xs ++ map c ys
      mapped [] ys = refl
      mapped (x ∷ xs) ys = ap (λ (vs : List ℕ). c x ∷ vs) (mapped xs ys)

  all_wires : (fs : List ℕ) (ns : List FlatNode)
      → concat_map wires_of (map (λ w. wire (c w)) fs ++ concat_map (λ l. l.0 ∷ l.1 ∷ []) (map (hung c) ns)) ≡ map c (fs ++ concat_map (λ m. m.pri ∷ m.aux) ns)
  unfolding wires_of
  all_wires [] ns = link_wires ns
  all_wires (w ∷ fs) ns = ap (λ (vs : List ℕ). c w ∷ vs) (all_wires fs ns)

  link_nodes : (ns : List FlatNode) → sum (map nodes_of (concat_map (λ l. l.0 ∷ l.1 ∷ []) (map (hung c) ns))) ≡ length ns
  unfolding nodes_of
  link_nodes [] = refl
  link_nodes (m ∷ ns) = rw (aux_nodes m.aux) (omega (arith, link_nodes ns))

  all_nodes : (fs : List ℕ) (ns : List FlatNode) → sum (map nodes_of (map (λ w. wire (c w)) fs ++ concat_map (λ l. l.0 ∷ l.1 ∷ []) (map (hung c) ns))) ≡ length ns
  unfolding nodes_of
  all_nodes [] ns = link_nodes ns
  all_nodes (w ∷ fs) ns = omega (arith, all_nodes fs ns)

-- its wires are the numbers of the flat net's places
pub tree_wires : (n : FlatNet) → concat_map wires_of (trees_of (to_tree n)) ≡ map (canonical (links_of n.pairs)) (places n)
unfolding to_tree trees_of places
tree_wires n = all_wires (canonical (links_of n.pairs)) n.free n.nodes

pub tree_nodes : (n : FlatNet) → sum (map nodes_of (trees_of (to_tree n))) ≡ length n.nodes
unfolding to_tree trees_of
tree_nodes n = all_nodes (canonical (links_of n.pairs)) n.free n.nodes

-- ---- it is well wired

pub tree_wired_lem : (n : FlatNet) → pairs_ordered n.pairs ≡ true → flat_wired n ≡ true → tree_wired (to_tree n) ≡ true
unfolding tree_wired flat_wired
tree_wired_lem n o h =
    let c = canonical (links_of n.pairs) in
    let t = both (all (pair_wired (places n)) n.pairs) (all (wire_wired (places n) n.pairs) (places n)) h in
    subst (λ ws. all (λ w. eqb (occurs w ws) 2) ws ≡ true) (sym (tree_wires n))
    (all_mapped (λ w. eqb (occurs w (map c (places n))) 2) c (places n)
    (λ w m. eq-eqb (occurs (c w) (map c (places n))) 2 (numbers_twice n.pairs (ordered_apart n.pairs o) (places n) t.0 t.1 w m)))

-- ---- it fits

module _ (paths names wires : ℕ) (c : ℕ → ℕ) (least : (w : ℕ) → c w ≤ w) where
  wire_fits : (d w : ℕ) → w < wires → TreeFits paths names wires d (wire (c w))
  unfolding TreeFits
  wire_fits zero w h = omega (arith, least w)
  wire_fits (suc d) w h = omega (arith, least w)

  wires_fit : (d : ℕ) (ws : List ℕ) → Each (λ w. w < wires) ws → Each (TreeFits paths names wires d) (map (λ w. wire (c w)) ws)
  wires_fit d [] h = tt
  wires_fit d (w ∷ ws) h = (wire_fits d w h.0, wires_fit d ws h.1)

  node_fits : (m : FlatNode) → NodeFits paths names wires m → TreeFits paths names wires 64 (hung c m).1
  unfolding TreeFits
  node_fits m h = (
    h.name,
    subst (λ ts. length ts ≤ 15) (sym (listed_trees (map (λ w. wire (c w)) m.aux))) (omega (arith, length-map m.aux (λ w. wire (c w)), h.few)),
    subst (Each (TreeFits paths names wires 63)) (sym (listed_trees (map (λ w. wire (c w)) m.aux))) (wires_fit 63 m.aux h.aux),
  )

  nodes_fit : (ns : List FlatNode) → Each (NodeFits paths names wires) ns → Each (LinkFits paths names wires) (map (hung c) ns)
  nodes_fit [] h = tt
  nodes_fit (m ∷ ns) h = ((wire_fits 64 m.pri h.0.pri, node_fits m h.0), nodes_fit ns h.1)

pub tree_net_fits : (paths names : ℕ) (n : FlatNet) → FlatNetFits paths names n → TreeNetFits paths names (to_tree n)
unfolding to_tree
tree_net_fits paths names n h =
    let c = canonical (links_of n.pairs) in
    record {
      name = h.name;
      wires = h.wires;
      few_free = omega (arith, length-map n.free (λ w. wire (c w)), h.few_free);
      free = wires_fit paths names n.wires c (canonical_least (links_of n.pairs)) 64 n.free h.free;
      few_links = omega (arith, length-map n.nodes (hung c), h.few_nodes);
      links = nodes_fit paths names n.wires c (canonical_least (links_of n.pairs)) n.nodes h.nodes;
    }

-- ---- the file

tree_named : (n : FlatNet) → (to_tree n).name ≡ n.name
unfolding to_tree
tree_named n = refl

to_tree_keeps : KeepsAll flat FlatNetFits tree TreeNetFits (λ n. ok (to_tree n))
to_tree_keeps paths names n h o g l m e = subst (Keeps flat FlatNetFits tree TreeNetFits paths names n) (same_ok (to_tree n) m e) (record {
  fits = tree_net_fits paths names n h;
  nodes = omega (arith, tree_nodes n);
  name = tree_named n;
  ordered = refl;
  wired = tree_wired_lem n o g;
})

-- the result of `to_tree` is an accepted file
pub to_tree_accepted : (bs : List ℕ) → Bytes bs → (x : File FlatNet) → read flat bs ≡ ok x → (y : File TreeNet) → convert (λ n. ok (to_tree n)) x ≡ ok y
    → read tree (write tree y) ≡ ok y
to_tree_accepted bs b x e y c =
    result_accepted flat FlatNetFits tree TreeNetFits (λ n. ok (to_tree n)) to_tree_keeps tree_fits tree_read_write bs x (flat_write_read bs b x e) y c
