-- The scan finds the place behind a tree that lies at a place: `lies-end`.
use Rattle.std.specs.Prelude.{ℕ, suc, ◌+◌, ◌≤◌, ◌≡◌, refl, List, [], ◌∷◌, ◌++◌, length}
use Rattle.std.proofs.Common.{sym, ap, subst, ◌∙◌, append_assoc, arith, length-append}
use Rattle.net_file.specs.Values.{Name, Tree, wire, node, Trees, more, listed, trees}
use Rattle.net_file.specs.Values
use Rattle.net_file.specs.Write.{be, write_name, write_tree, write_trees}
use Rattle.net_file_laws.specs.Bytes.{length_be}
use Rattle.net_file_laws.specs.Trees.{trees_listed}
use Rattle.fields.specs.Fields.{byte, be16}
use Rattle.stored_tree.specs.Tree.{child_count_at, children}
use Rattle.scan_tree.specs.Count.{end_from}
use Rattle.scan_tree_laws.specs.Scanned.{Scanned, scanned_none, scanned_then, scanned_wire, scanned_node, scanned_end}
use Rattle.spelt_trees.specs.Lies.{WireLies, HeadLies, Lies, LieAll}

-- how long a tree is
pub wire_long : (w : ℕ) → length (write_tree (wire w)) ≡ 3
unfolding write_tree
wire_long w = rw (length-append, length_be 1 0, length_be 2 w)

pub node_long : (m : Name) (ts : Trees) → length (write_tree (node m ts)) ≡ length (be 1 1 ++ write_name m ++ be 1 (length (listed ts))) + length (write_trees ts)
unfolding write_tree
node_long m ts =
    let k = length (listed ts) in
    let a : be 1 1 ++ write_name m ++ be 1 k ++ write_trees ts ≡ (be 1 1 ++ write_name m ++ be 1 k) ++ write_trees ts = sym (rw (append_assoc, append_assoc)) in
    ap length a ∙ length-append (be 1 1 ++ write_name m ++ be 1 k) (write_trees ts)

module _ (s : List ℕ) (n : ℕ) where
  mutual
    unfolding Lies write_tree

    pub lies_scanned : (t : Tree) (at : ℕ) → Lies s n t at → Scanned s at (at + length (write_tree t)) (t ∷ [])
    lies_scanned (wire w) at h = rw (wire_long w, h.is) (scanned_wire s at h.tag)
    lies_scanned (node m ts) at h =
        let e : at + length (write_tree (node m ts)) ≡ child_count_at s at + 1 + length (write_trees ts) = omega (arith, node_long m ts, h.0.end) in
        let f = child_count_at s at + 1 + length (write_trees ts) in
        let g = scanned_node s at m f (listed ts) h.0.tag (sym h.0.count) (all_scanned ts (child_count_at s at + 1) h.1) in
        rw e (subst (λ us. Scanned s at f (node m us ∷ [])) (trees_listed ts) g)

    pub all_scanned : (ts : Trees) (at : ℕ) → LieAll s n ts at → Scanned s at (at + length (write_trees ts)) (listed ts)
    all_scanned Values.none at h = let e : at + 0 ≡ at = omega arith in rw e (scanned_none s at)
    all_scanned (more t ts) at h =
        let e : at + length (write_tree t ++ write_trees ts) ≡ at + length (write_tree t) + length (write_trees ts) = rw (length-append) (omega arith) in
        rw e (scanned_then s (lies_scanned t at h.0) (all_scanned ts (at + length (write_tree t)) h.1))

  pub lies_end : (t : Tree) (at : ℕ) → Lies s n t at → at + length (write_tree t) ≤ length s → end_from s at 1 ≡ at + length (write_tree t)
  lies_end t at h l = scanned_end s at (at + length (write_tree t)) (t ∷ []) (lies_scanned t at h) l
