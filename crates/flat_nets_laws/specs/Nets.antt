-- All nets of a file, measured and written: 18 where one needs wire 65,536, else the bytes of the flat nets that the definitions give.
use Prim.Native.Nat.{ℕ, zero, suc, ◌+◌, ◌<◌, ◌≤◌, min, max}
use Rattle.std.specs.Prelude.{◌≡◌, List, [], ◌∷◌, ◌++◌, map}
use Rattle.std.proofs.Math.Path.{refl, ap}
use Rattle.std.proofs.Common.{◌∙◌}
use native.Mathlib.Omega.{arith}
use Rattle.std.proofs.Math.Decide.{dec_lt}
use Rattle.std.proofs.Math.ListN.{length, length-append}
use Rattle.std.proofs.Math.Seq.{sets, length-sets}
use Rattle.words.specs.Choose.{lt_split}
use Rattle.net_file.specs.Lists.{ok, refuse, concat_map, sum}
use Rattle.net_file.specs.Values.{Tree, trees, TreeNet}
use Rattle.net_file.specs.Write.{write_flat_net}
use Rattle.net_file.specs.Checks.{nodes_of, nodes_of_all, trees_of}
use Rattle.net_file_laws.specs.Bytes.{Bytes}
use Rattle.net_file_laws.specs.Exact.{Each}
use Rattle.fields.specs.Fields.{be32}
use Rattle.stored.specs.Stored.{table_at, table_end}
use Rattle.stored_tree.specs.Tree.{tree_net_at, tree_net_end}
use Rattle.ends.specs.Ends.{table_up}
use Rattle.tree_laws.specs.Places.{net_up}
use Rattle.text_writers.specs.Wrote.{far}
use Rattle.conversions.specs.Convert.{to_flat}
use Rattle.conversions.specs.Calls.{map_nets}
use Rattle.wire_links.specs.Table.{on}
use Rattle.embed_laws.specs.Nets.{flat_wires, flat_of, flat_fits, flat_over}
use Rattle.embed_walk_laws.specs.Sets.{sets_then}
use Rattle.flat_nets.specs.declared.Total.{Total}
use Rattle.flat_nets.specs.declared.Spot.{Spot}
use Rattle.flat_nets.specs.Flat.{passed, summed, summed_all, passed_all, net_spot, net_words, net_out, nets_out}
use Rattle.flat_nets_laws.specs.Links.{link_nodes, links_nodes}
use Rattle.flat_nets_laws.specs.Clean.{Clean}
use Rattle.flat_nets_laws.specs.Net.{node_count}
use Rattle.flat_nets_laws.specs.Flat.{measured_end, measured_wires, size_is, net_out_lem, spot_at, spot_to}

-- ---- the definitions, net by net

-- the greatest counter among nets, and one before them
unfoldable pub most : List TreeNet → ℕ → ℕ
most [] w = w
most (n ∷ ns) w = most ns (max w (min 65537 (flat_wires n)))

-- each net's counter is in range, and all its wires fit
abbrev pub Counted : TreeNet → Type 0
Counted n = (n.wires ≤ 65536) × (node_count n ≤ 65536)

abbrev pub Fits : TreeNet → Type 0
Fits n = flat_wires n ≤ 65536

pub most_fits : (ns : List TreeNet) (w : ℕ) → most ns w ≤ 65536 → (w ≤ 65536) × Each Fits ns
unfolding most
most_fits [] w h = (h, tt)
most_fits (n ∷ ns) w h = let i = most_fits ns (max w (min 65537 (flat_wires n))) h in let j = i.0 in (omega arith, (omega arith, i.1))

-- the bytes of flat nets, one after another
unfoldable pub flat_bytes : List TreeNet → List ℕ
flat_bytes [] = []
flat_bytes (n ∷ ns) = write_flat_net (flat_of n) ++ flat_bytes ns

pub nets_written : (ns : List TreeNet) → concat_map write_flat_net (map flat_of ns) ≡ flat_bytes ns
unfolding flat_bytes
nets_written [] = refl
nets_written (n ∷ ns) = rw (nets_written ns)

pub nets_fit : (ns : List TreeNet) → Each Fits ns → map_nets to_flat ns ≡ ok (map flat_of ns)
unfolding map_nets
nets_fit [] h = refl
nets_fit (n ∷ ns) h = rw (flat_fits n h.0, nets_fit ns h.1)

pub nets_over : (ns : List TreeNet) (w : ℕ) → Each Counted ns → w ≤ 65536 → 65536 < most ns w → map_nets to_flat ns ≡ refuse 18
unfolding map_nets most
nets_over [] w c l h = absurd (omega arith)
nets_over (n ∷ ns) w c l h = elim (dec_lt 65536 (flat_wires n)) [
  | yes k ↦ rw (flat_over n c.0.0 k)
  | no k ↦ rw (flat_fits n (omega arith), nets_over ns (max w (min 65537 (flat_wires n))) c.1 (omega arith) h)
]

-- ---- measured

module _ (s : List ℕ) (bytes : Bytes s) where
  abbrev pub nets_from : ℕ → ℕ → List TreeNet
  nets_from p k = table_at (tree_net_at s) (tree_net_end s) p k

  pub first_inside : (a k : ℕ) → table_end (tree_net_end s) (tree_net_end s a) k ≤ length s → tree_net_end s a ≤ length s
  first_inside a k i = let u = table_up (tree_net_end s) (net_up s) (tree_net_end s a) k in omega arith

  module _ (ws : List ℕ) (t : Total) (i : tree_net_end s t.at ≤ length s) (c : Counted (tree_net_at s t.at)) where
    pub counter_low : be32 s (t.at + 3) ≤ 65536
    unfolding tree_net_at
    counter_low = c.0

    pub summed_at : (summed s ws t).at ≡ tree_net_end s t.at
    unfolding summed
    summed_at = lt_split _ _ _ _ (λ (x : Total). x.at ≡ tree_net_end s t.at) (λ h. measured_end s bytes t.at i counter_low ws) (λ h. measured_end s bytes t.at i counter_low ws)

    pub summed_wires : (summed s ws t).wires ≡ max t.wires (min 65537 (flat_wires (tree_net_at s t.at)))
    unfolding summed
    summed_wires =
        let m = measured_wires s bytes t.at i counter_low ws in
        lt_split _ _ _ _ (λ (x : Total). x.wires ≡ max t.wires (min 65537 (flat_wires (tree_net_at s t.at)))) (λ h. omega arith) (λ h. omega arith)

    pub summed_to : Fits (tree_net_at s t.at) → Clean ws → (summed s ws t).to ≡ min far (t.to + length (write_flat_net (flat_of (tree_net_at s t.at))))
    unfolding summed on
    summed_to f clean =
        let z = size_is s bytes t.at i counter_low ws f clean in
        lt_split _ _ _ _ (λ (x : Total). x.to ≡ min far (t.to + length (write_flat_net (flat_of (tree_net_at s t.at))))) (λ h. omega arith) (λ h. omega arith)

  pub most_as : (k : ℕ) {p e n m : ℕ} → p ≡ e → n ≡ m → most (nets_from p k) n ≡ most (nets_from e k) m
  most_as k ep en = rw (ep, en)

  -- the greatest counter
  pub all_wires : (k : ℕ) (ws : List ℕ) (t : Total) → table_end (tree_net_end s) t.at k ≤ length s → Each Counted (nets_from t.at k)
      → (summed_all s ws t k).wires ≡ most (nets_from t.at k) t.wires
  unfolding summed_all table_at table_end most
  all_wires zero ws t i c = refl
  all_wires (suc k) ws t i c =
      let j = first_inside t.at k i in
      let x = summed s ws t in
      let e = summed_at ws t j c.0 in
      let d : Each Counted (nets_from x.at k) = rw e c.1 in
      all_wires k (passed s ws t.at) x (rw e i) d ∙ most_as k e (summed_wires ws t j c.0)

-- ---- a net's nodes, as check 5 counts them

pub sum_append : (xs ys : List Tree) → sum (map nodes_of (xs ++ ys)) ≡ sum (map nodes_of xs) + sum (map nodes_of ys)
sum_append [] ys = omega arith
sum_append (x ∷ xs) ys = let e = sum_append xs ys in omega arith

pub free_sum : (ts : List Tree) → nodes_of_all (trees ts) ≡ sum (map nodes_of ts)
unfolding nodes_of_all
free_sum [] = refl
free_sum (t ∷ ts) = let e = free_sum ts in omega arith

pub links_sum : (ls : List (Tree × Tree)) → links_nodes ls ≡ sum (map nodes_of (concat_map (λ l. l.0 ∷ l.1 ∷ []) ls))
unfolding links_nodes link_nodes
links_sum [] = refl
links_sum (l ∷ ls) = let e = links_sum ls in omega arith

pub nodes_sum : (n : TreeNet) → node_count n ≡ sum (map nodes_of (trees_of n))
unfolding node_count trees_of
nodes_sum n = rw (sum_append n.free (concat_map (λ l. l.0 ∷ l.1 ∷ []) n.links)) (omega (arith, free_sum n.free, links_sum n.links))
