-- Trees that are read are scanned. Last: the wires, the nodes and the end of k trees (`trees-wires`, `trees-nodes`, `trees-end`).
use Prim.Native.Nat.{ℕ, zero, suc, ◌+◌, ◌≤◌}
use Rattle.std.specs.Prelude.{◌≡◌, List, [], ◌∷◌, map, length, drop}
use Rattle.std.proofs.Math.Path.{refl}
use Rattle.std.proofs.Common.{ap, arith}
use Rattle.std.proofs.Math.Option.{some}
use Rattle.std.proofs.Math.Decide.{ℕ_discrete}
use Rattle.net_file.specs.Lists.{concat_map, sum}
use Rattle.net_file.specs.Values.{Tree, node, trees}
use Rattle.net_file.specs.Read.{Parser, ◌>>=◌, give, number, times, many, read_name, read_wire, by_tag, read_tree, read_link}
use Rattle.net_file.specs.Checks.{wires_of, nodes_of}
use Rattle.fields.specs.Fields.{byte}
use Rattle.stored.specs.Stored.{table_at, table_end, name_at, name_end}
use Rattle.stored.specs.Laws.{Stands, bound, table_length, stands_1, stands_below, stands_times}
use Rattle.stored.specs.Parts.{stands_name}
use Rattle.stored_tree.specs.Tree.{child_count_at, children, tree_at, tree_end, link_at, link_end}
use Rattle.stored_tree.specs.Parts.{stands_tree}
use Rattle.walk.specs.Loops.{times_suc}
use Rattle.scan_tree.specs.Scan.{tag_wire, tag_node}
use Rattle.scan_tree.specs.Count.{wires_from, nodes_from, end_from}
use Rattle.stored.specs.Pass.{pass, under}
use Rattle.scan_tree_laws.specs.Scanned.{Scanned, scanned_none, scanned_then, scanned_wire, scanned_node, scanned_wires, scanned_nodes, scanned_end}

-- ---- one part after another, of which each holds trees

module _ (s : List ℕ) where
  -- what is read at a place is scanned there, as the trees ts
  abbrev pub Scans : {A : Type 0} → Parser A → ℕ → ℕ → List Tree → Type 0
  Scans {A} p at e ts = (x : A) (r : List ℕ) → at ≤ length s → p (drop at s) ≡ some (x, r) → Scanned s at e ts

  module _ {A : Type 0} (p : Parser A) (one : ℕ → A) (end : ℕ → ℕ) (st : (at : ℕ) → Stands s p at (one at) (end at)) (ts : A → List Tree)
      (sc : (at : ℕ) → Scans p at (end at) (ts (one at))) where
    pub scans_times : (n at : ℕ) → Scans (times n p) at (table_end end at n) (concat_map ts (table_at one end at n))
    unfolding table_at table_end
    scans_times zero at xs r i h = scanned_none s at
    scans_times (suc n) at xs r i h =
        let g : (p >>= λ x. times n p >>= λ ys. give (x ∷ ys)) (drop at s) ≡ some (xs, r) = rw times_suc at h in
        let b = pass (λ x. times n p >>= λ ys. give (x ∷ ys)) xs r (st at) i g in
        let c = bound (times n p) (λ ys. give (one at ∷ ys)) (drop (end at) s) xs r b.next in
        scanned_then s (sc at (one at) (drop (end at) s) i b.first) (scans_times n (end at) c.value c.rest b.inside c.first)

    -- a count of k bytes, then as many
    pub scans_counted : (k m : ℕ) {at n e : ℕ} → Stands s (number k) at n e → (xs : List A) (r : List ℕ) → at ≤ length s → many k m p (drop at s) ≡ some (xs, r)
        → Scanned s e (table_end end e n) (concat_map ts (table_at one end e n))
    unfolding many
    scans_counted k m {at} {n} {e} h xs r i g =
        let b = pass (λ n. times n p) xs r (stands_below s k (suc m) at n e h) i g in
        scans_times n e xs r b.inside b.next

-- each tree by itself
pub singles : (ts : List Tree) → concat_map (λ t. t ∷ []) ts ≡ ts
singles [] = refl
singles (t ∷ ts) = ap {B = List Tree} (λ us. t ∷ us) (singles ts)

module _ (s : List ℕ) (p : Parser Tree) (one : ℕ → Tree) (end : ℕ → ℕ) (st : (at : ℕ) → Stands s p at (one at) (end at))
    (sc : (at : ℕ) → Scans s p at (end at) (one at ∷ [])) where
  pub scans_run : (n at : ℕ) → Scans s (times n p) at (table_end end at n) (table_at one end at n)
  scans_run n at xs r i h = rw (← singles (table_at one end at n)) (scans_times s p one end st (λ t. t ∷ []) sc n at xs r i h)

  pub scans_many : (k m : ℕ) {at n e : ℕ} → Stands s (number k) at n e → (xs : List Tree) (r : List ℕ) → at ≤ length s → many k m p (drop at s) ≡ some (xs, r)
      → Scanned s e (table_end end e n) (table_at one end e n)
  scans_many k m {at} {n} {e} h xs r i g = rw (← singles (table_at one end e n)) (scans_counted s p one end st (λ t. t ∷ []) sc k m h xs r i g)

-- ---- a tree

module _ (s : List ℕ) (at : ℕ) where
  scanned_leaf : (d : ℕ) → byte s at ≡ 0 → Scanned s at (tree_end s d at) (tree_at s d at ∷ [])
  unfolding tree_at tree_end
  scanned_leaf zero z = scanned_wire s at z
  scanned_leaf (suc d) z = rw (tag_wire _ _ (byte s at) z, tag_wire _ _ (byte s at) z) (scanned_wire s at z)

  scanned_branch : (d : ℕ) → (byte s at ≡ 0 → ⊥)
      → Scanned s (child_count_at s at + 1) (table_end (tree_end s d) (child_count_at s at + 1) (children s at)) (table_at (tree_at s d) (tree_end s d) (child_count_at s at + 1) (children s at))
      → Scanned s at (tree_end s (suc d) at) (tree_at s (suc d) at ∷ [])
  unfolding tree_at tree_end
  scanned_branch d z a =
      rw (tag_node _ _ (byte s at) z, tag_node _ _ (byte s at) z)
      (scanned_node s at (name_at s (at + 1)) _ (table_at (tree_at s d) (tree_end s d) (child_count_at s at + 1) (children s at)) z (table_length s (tree_at s d) (tree_end s d) _ _) a)

module _ (s : List ℕ) (paths names wires : ℕ) where
  -- a node behind its tag
  abbrev node_of : ℕ → Parser Tree
  node_of d = read_name paths names >>= λ m. many 1 15 (read_tree paths names wires d) >>= λ ts. give (node m (trees ts))

  by_node : (d tag : ℕ) → (tag ≡ 0 → ⊥) → by_tag tag (read_wire wires) (node_of d) ≡ node_of d
  unfolding by_tag
  by_node d zero h = absurd (h refl)
  by_node d (suc n) h = refl

  -- a node's children, which were read one level down
  scanned_children : (d at : ℕ) (x : Tree) (r : List ℕ) → ((a : ℕ) → Scans s (read_tree paths names wires d) a (tree_end s d a) (tree_at s d a ∷ []))
      → at + 1 ≤ length s → node_of d (drop (at + 1) s) ≡ some (x, r)
      → Scanned s (child_count_at s at + 1) (table_end (tree_end s d) (child_count_at s at + 1) (children s at)) (table_at (tree_at s d) (tree_end s d) (child_count_at s at + 1) (children s at))
  unfolding child_count_at children
  scanned_children d at x r sc i h =
      let m = pass (λ m. many 1 15 (read_tree paths names wires d) >>= λ ts. give (node m (trees ts))) x r (stands_name s paths names (at + 1)) i h in
      let c = bound (many 1 15 (read_tree paths names wires d)) (λ ts. give (node (name_at s (at + 1)) (trees ts))) (drop (name_end s (at + 1)) s) x r m.next in
      scans_many s (read_tree paths names wires d) (tree_at s d) (tree_end s d) (stands_tree s paths names wires d) sc 1 15 (stands_1 s (name_end s (at + 1))) c.value c.rest m.inside c.first

  pub scans_tree : (d at : ℕ) → Scans s (read_tree paths names wires d) at (tree_end s d at) (tree_at s d at ∷ [])
  unfolding read_tree
  scans_tree zero at x r i h =
      let b = pass (λ tag. read_wire wires) x r (stands_below s 1 1 at _ _ (stands_1 s at)) i h in
      let l = under 1 1 (byte s at) (drop at s) (drop (at + 1) s) b.first in
      scanned_leaf s at 0 (omega arith)
  scans_tree (suc d) at x r i h =
      let b = pass (λ tag. by_tag tag (read_wire wires) (node_of d)) x r (stands_below s 1 2 at _ _ (stands_1 s at)) i h in
      elim (ℕ_discrete (byte s at) 0) [
        | yes z ↦ scanned_leaf s at (suc d) z
        | no z ↦ scanned_branch s at d z (scanned_children d at x r (scans_tree d) b.inside (rw (by_node d (byte s at) z) at b.next))
      ]

  -- a link: its two trees
  pub scans_link : (at : ℕ) → Scans s (read_link paths names wires) at (link_end s at) ((link_at s at).0 ∷ (link_at s at).1 ∷ [])
  unfolding read_link link_at link_end
  scans_link at x r i h =
      let b = pass (λ a. read_tree paths names wires 64 >>= λ b. give (a, b)) x r (stands_tree s paths names wires 64 at) i h in
      let c = pass (λ b. give (tree_at s 64 at, b)) x r (stands_tree s paths names wires 64 (tree_end s 64 at)) b.inside b.next in
      scanned_then s (scans_tree 64 at (tree_at s 64 at) (drop (tree_end s 64 at) s) i b.first) (scans_tree 64 (tree_end s 64 at) _ _ b.inside c.first)

  -- ---- k trees that were read, one after another

  module _ (d k at : ℕ) (ts : List Tree) (r : List ℕ) (i : at ≤ length s) (h : times k (read_tree paths names wires d) (drop at s) ≡ some (ts, r)) where
    abbrev stood : (ts ≡ table_at (tree_at s d) (tree_end s d) at k) × (r ≡ drop (table_end (tree_end s d) at k) s) × (at ≤ table_end (tree_end s d) at k) × (table_end (tree_end s d) at k ≤ length s)
    stood = (stands_times s (read_tree paths names wires d) (tree_at s d) (tree_end s d) (stands_tree s paths names wires d) k at).by ts r i h

    scanned : Scanned s at (table_end (tree_end s d) at k) ts
    scanned = rw stood.0 (scans_run s (read_tree paths names wires d) (tree_at s d) (tree_end s d) (stands_tree s paths names wires d) (scans_tree d) k at ts r i h)

    as_many : length ts ≡ k
    as_many = rw stood.0 (table_length s (tree_at s d) (tree_end s d) at k)

    pub trees_wires : wires_from s at k ≡ concat_map wires_of ts
    trees_wires = rw as_many at (scanned_wires s at _ ts scanned stood.3)

    pub trees_nodes : nodes_from s at k ≡ sum (map nodes_of ts)
    trees_nodes = rw as_many at (scanned_nodes s at _ ts scanned stood.3)

    pub trees_end : end_from s at k ≡ table_end (tree_end s d) at k
    trees_end = rw as_many at (scanned_end s at _ ts scanned stood.3)
