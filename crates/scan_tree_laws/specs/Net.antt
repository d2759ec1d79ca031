-- The scan of a net that is read tells its wires, its nodes and its end; and over nets, how many nodes they have.
use Prim.Native.Nat.{ℕ, zero, suc, ◌+◌, ◌*◌, ◌≤◌}
use Rattle.std.specs.Prelude.{◌≡◌, List, [], ◌∷◌, map, length, drop}
use Rattle.std.proofs.Math.Path.{refl, ap}
use Rattle.std.proofs.Common.{sym, ◌∙◌}
use Rattle.std.proofs.Math.Option.{some}
use native.Mathlib.Omega.{arith}
use Rattle.net_file.specs.Lists.{concat_map, sum}
use Rattle.net_file.specs.Values.{Tree, TreeNet}
use Rattle.net_file.specs.Read.{◌>>=◌, give, times, read_tree, read_link, read_tree_net}
use Rattle.net_file.specs.Checks.{wires_of, nodes_of, trees_of, tree}
use Rattle.fields.specs.Fields.{byte, be16, be32}
use Rattle.stored.specs.Stored.{table_at}
use Rattle.stored.specs.Laws.{bound, table_length, stands_as, stands_1, stands_2, stands_4, stands_below, stands_many, stands_times}
use Rattle.stored.specs.Parts.{stands_bit}
use Rattle.stored_tree.specs.Tree.{tree_at, tree_end, link_at, link_end, link_count_at, tree_net_at, tree_net_end}
use Rattle.stored_tree.specs.Parts.{stands_tree, stands_link, stands_tree_net}
use Rattle.walk.specs.Loops.{times_suc}
use Rattle.scan_tree.specs.Count.{links_at, net_nodes, net_wires, net_end, nets_nodes}
use Rattle.stored.specs.Pass.{pass}
use Rattle.scan_tree_laws.specs.Scanned.{Scanned, scanned_wires, scanned_nodes, scanned_end, concat_append, sum_append}
use Rattle.scan_tree_laws.specs.Trees.{scans_many, scans_counted, scans_tree, scans_link}

-- the trees of links, two for each
abbrev link_trees : Tree × Tree → List Tree
link_trees l = l.0 ∷ l.1 ∷ []

links_length : (ls : List (Tree × Tree)) → length (concat_map link_trees ls) ≡ 2 * length ls
links_length [] = omega arith
links_length (l ∷ ls) = omega (arith, links_length ls)

module _ (s : List ℕ) (paths names at : ℕ) where
  pub record NetScanned : Type 0 where
    pub free : Scanned s (at + 8) (link_count_at s at) (tree_net_at s at).free
    pub links : Scanned s (link_count_at s at + 2) (tree_net_end s at) (concat_map link_trees (tree_net_at s at).links)
    pub middle : link_count_at s at ≤ length s
    pub inside : tree_net_end s at ≤ length s

  pub scanned_net : (x : TreeNet) (r : List ℕ) → at ≤ length s → read_tree_net paths names (drop at s) ≡ some (x, r) → NetScanned
  unfolding read_tree_net tree_net_at tree_net_end link_count_at
  scanned_net x r i h =
      let e : at + 2 + 1 ≡ at + 3 = omega arith in
      let f : at + 3 + 4 ≡ at + 7 = omega arith in
      let g : at + 7 + 1 ≡ at + 8 = omega arith in
      let a = pass _ x r (stands_below s 2 names at _ _ (stands_2 s at)) i h in
      let b = pass _ x r (stands_as (stands_bit s (at + 2)) refl e) a.inside a.next in
      let c = pass _ x r (stands_as (stands_below s 4 65537 _ _ _ (stands_4 s (at + 3))) refl f) b.inside b.next in
      let w = be32 s (at + 3) in
      let n = stands_as (stands_1 s (at + 7)) refl g in
      let a_tree = read_tree paths names w 64 in
      let a_link = read_link paths names w in
      let d = pass _ x r (stands_many s 1 14 a_tree (tree_at s 64) (tree_end s 64) _ _ _ n (stands_tree s paths names w 64)) c.inside c.next in
      let l = pass _ x r (stands_many s 2 65535 a_link (link_at s) (link_end s) _ _ _ (stands_2 s _) (stands_link s paths names w)) d.inside d.next in
      record {
        free = scans_many s a_tree (tree_at s 64) (tree_end s 64) (stands_tree s paths names w 64) (scans_tree s paths names w 64) 1 14 n _ _ c.inside d.first;
        links = scans_counted s a_link (link_at s) (link_end s) (stands_link s paths names w) link_trees (scans_link s paths names w) 2 65535 (stands_2 s _) _ _ d.inside l.first;
        middle = d.inside;
        inside = l.inside;
      }

  -- ---- what a net tells that was read

  module _ (x : TreeNet) (r : List ℕ) (i : at ≤ length s) (h : read_tree_net paths names (drop at s) ≡ some (x, r)) where
    abbrev whole : NetScanned
    whole = scanned_net x r i h

    free_many : length (tree_net_at s at).free ≡ byte s (at + 7)
    unfolding tree_net_at
    free_many = table_length s (tree_at s 64) (tree_end s 64) (at + 8) (byte s (at + 7))

    links_many : length (concat_map link_trees (tree_net_at s at).links) ≡ 2 * be16 s (link_count_at s at)
    unfolding tree_net_at
    links_many = links_length (table_at (link_at s) (link_end s) _ _) ∙ ap (λ n. 2 * n) (table_length s (link_at s) (link_end s) _ _)

    -- the scan finds the link count
    links_place : links_at s at ≡ link_count_at s at
    unfolding links_at
    links_place = rw free_many at (scanned_end s _ _ _ whole.free whole.middle)

    is_stored : x ≡ tree_net_at s at
    is_stored = ((stands_tree_net s paths names at).by x r i h).0

    pub net_wires_lem : net_wires s at ≡ concat_map wires_of (trees_of x)
    unfolding net_wires trees_of
    net_wires_lem =
        let f = rw free_many at (scanned_wires s _ _ _ whole.free whole.middle) in
        let l = rw links_many at (scanned_wires s _ _ _ whole.links whole.inside) in
        rw (is_stored, links_place, f, l) (sym (concat_append wires_of (tree_net_at s at).free (concat_map link_trees (tree_net_at s at).links)))

    pub net_nodes_lem : net_nodes s at ≡ tree.nodes x
    unfolding net_nodes trees_of
    net_nodes_lem =
        let f = rw free_many at (scanned_nodes s _ _ _ whole.free whole.middle) in
        let l = rw links_many at (scanned_nodes s _ _ _ whole.links whole.inside) in
        rw (is_stored, links_place, f, l) (sym (sum_append nodes_of (tree_net_at s at).free (concat_map link_trees (tree_net_at s at).links)))

    pub net_end_lem : net_end s at ≡ tree_net_end s at
    unfolding net_end
    net_end_lem = rw links_place (rw links_many at (scanned_end s _ _ _ whole.links whole.inside))

-- ---- nets, one after another

module _ (s : List ℕ) (paths names : ℕ) where
  stored_nodes : (n at : ℕ) (ns : List TreeNet) (r : List ℕ) → at ≤ length s → times n (read_tree_net paths names) (drop at s) ≡ some (ns, r)
      → nets_nodes s at n ≡ sum (map tree.nodes (table_at (tree_net_at s) (tree_net_end s) at n))
  unfolding nets_nodes table_at
  stored_nodes zero at ns r i h = refl
  stored_nodes (suc n) at ns r i h =
      let a_net = read_tree_net paths names in
      let g : (a_net >>= λ x. times n a_net >>= λ xs. give (x ∷ xs)) (drop at s) ≡ some (ns, r) = rw times_suc at h in
      let b = pass (λ x. times n a_net >>= λ xs. give (x ∷ xs)) ns r (stands_tree_net s paths names at) i g in
      let c = bound (times n a_net) (λ xs. give (tree_net_at s at ∷ xs)) (drop (tree_net_end s at) s) ns r b.next in
      rw (net_nodes_lem s paths names at (tree_net_at s at) _ i b.first, net_end_lem s paths names at (tree_net_at s at) _ i b.first, stored_nodes n (tree_net_end s at) c.value c.rest b.inside c.first)

  module _ (n at : ℕ) (ns : List TreeNet) (r : List ℕ) (i : at ≤ length s) (h : times n (read_tree_net paths names) (drop at s) ≡ some (ns, r)) where
    pub nets_nodes_lem : nets_nodes s at n ≡ sum (map tree.nodes ns)
    nets_nodes_lem =
        rw ((stands_times s (read_tree_net paths names) (tree_net_at s) (tree_net_end s) (stands_tree_net s paths names) n at).by ns r i h).0
        (stored_nodes n at ns r i h)
