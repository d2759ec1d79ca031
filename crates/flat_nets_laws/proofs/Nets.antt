-- All nets of a file, measured and written: 18 where one needs wire 65,536, else the bytes of the flat nets that the definitions give.
use Prim.Native.Nat.{ℕ, zero, suc, ◌+◌, ◌<◌, ◌≤◌, min, max}
use Rattle.std.specs.Prelude.{◌≡◌, List, [], ◌∷◌, ◌++◌, map}
use Rattle.std.proofs.Math.Path.{refl, ap}
use Rattle.std.proofs.Common.{◌∙◌}
use native.Mathlib.Omega.{arith}
use Rattle.std.proofs.Math.Decide.{dec_lt}
use Rattle.std.proofs.Math.ListN.{length, length-append}
use Rattle.std.proofs.Math.Seq.{sets, length-sets}
use Rattle.words.specs.Choose.{lt_split}
use Rattle.net_file.specs.Lists.{ok, refuse, concat_map, sum}
use Rattle.net_file.specs.Values.{Tree, trees, TreeNet}
use Rattle.net_file.specs.Write.{write_flat_net}
use Rattle.net_file.specs.Checks.{nodes_of, nodes_of_all, trees_of}
use Rattle.net_file_laws.specs.Bytes.{Bytes}
use Rattle.net_file_laws.specs.Exact.{Each}
use Rattle.fields.specs.Fields.{be32}
use Rattle.stored.specs.Stored.{table_at, table_end}
use Rattle.stored_tree.specs.Tree.{tree_net_at, tree_net_end}
use Rattle.ends.specs.Ends.{table_up}
use Rattle.tree_laws.specs.Places.{net_up}
use Rattle.text_writers.specs.Wrote.{far}
use Rattle.conversions.specs.Convert.{to_flat}
use Rattle.conversions.specs.Calls.{map_nets}
use Rattle.wire_links.specs.Table.{on}
use Rattle.embed_laws.specs.Nets.{flat_wires, flat_of, flat_fits, flat_over}
use Rattle.embed_walk_laws.specs.Sets.{sets_then}
use Rattle.flat_nets.specs.declared.Total.{Total}
use Rattle.flat_nets.specs.declared.Spot.{Spot}
use Rattle.flat_nets.specs.Flat.{passed, summed, summed_all, passed_all, net_spot, net_words, net_out, nets_out}
use Rattle.flat_nets_laws.specs.Links.{link_nodes, links_nodes}
use Rattle.flat_nets_laws.specs.Clean.{Clean}
use Rattle.flat_nets_laws.proofs.Clean.{passed_clean, words_clean}
use Rattle.flat_nets_laws.specs.Net.{node_count}
use Rattle.flat_nets_laws.specs.Flat.{measured_end, measured_wires, size_is, net_out_lem, spot_at, spot_to}
use Rattle.flat_nets_laws.specs.Nets.{Counted, Fits, flat_bytes, nets_from, first_inside, counter_low, summed_at, summed_to}

-- ---- measured

module _ (s : List ℕ) (bytes : Bytes s) where
  -- how long they are, where all fit
  pub all_to : (k : ℕ) (ws : List ℕ) → Clean ws → (t : Total) → t.to ≤ far → table_end (tree_net_end s) t.at k ≤ length s → Each Counted ((nets_from s bytes) t.at k) → Each Fits ((nets_from s bytes) t.at k)
      → (summed_all s ws t k).to ≡ min far (t.to + length (flat_bytes ((nets_from s bytes) t.at k)))
  unfolding summed_all table_at table_end flat_bytes
  all_to zero ws clean t h i c f = omega arith
  all_to (suc k) ws clean t h i c f =
      let j = (first_inside s bytes) t.at k i in
      let x = summed s ws t in
      let e = (summed_at s bytes) ws t j c.0 in
      let d : Each Counted ((nets_from s bytes) x.at k) = rw e c.1 in
      let g : Each Fits ((nets_from s bytes) x.at k) = rw e f.1 in
      let o = (summed_to s bytes) ws t j c.0 f.0 clean in
      let y = write_flat_net (flat_of (tree_net_at s t.at)) in
      let l = length-append y (flat_bytes ((nets_from s bytes) (tree_net_end s t.at) k)) in
      let r = all_to k (passed s ws t.at) (passed_clean s bytes ws clean t.at) x (omega arith) (rw e i) d g in
      r ∙ ap (λ p. min far (x.to + length (flat_bytes ((nets_from s bytes) p k)))) e ∙ omega arith

  -- the table is without links again
  pub all_passed : (k : ℕ) (ws : List ℕ) → Clean ws → (t : Total) → Clean (passed_all s ws t k)
  unfolding passed_all
  all_passed zero ws clean t = clean
  all_passed (suc k) ws clean t = all_passed k (passed s ws t.at) (passed_clean s bytes ws clean t.at) (summed s ws t)

  -- ---- written

  pub all_out : (k : ℕ) (ws : List ℕ) → Clean ws → (p : Spot) → table_end (tree_net_end s) p.at k ≤ length s → Each Counted ((nets_from s bytes) p.at k) → Each Fits ((nets_from s bytes) p.at k)
      → (out : List ℕ) → length out ≤ far → p.to + length (flat_bytes ((nets_from s bytes) p.at k)) ≤ far
      → nets_out s ws p k out ≡ sets out p.to (flat_bytes ((nets_from s bytes) p.at k))
  unfolding nets_out table_at table_end flat_bytes
  all_out zero ws clean p i c f out room said = refl
  all_out (suc k) ws clean p i c f out room said =
      let j = (first_inside s bytes) p.at k i in
      let w = (counter_low s bytes) ws (record { at = p.at; wires = 0; to = 0 }) j c.0 in
      let y = write_flat_net (flat_of (tree_net_at s p.at)) in
      let z = flat_bytes ((nets_from s bytes) (tree_net_end s p.at) k) in
      let l = length-append y z in
      let x = net_spot s ws p in
      let ea = spot_at s bytes p.at j w ws f.0 clean c.0.1 p.to out room (omega arith) in
      let et = spot_to s bytes p.at j w ws f.0 clean c.0.1 p.to out room (omega arith) in
      let eo = net_out_lem s bytes p.at j w ws f.0 clean c.0.1 p.to out room (omega arith) in
      let d : Each Counted ((nets_from s bytes) x.at k) = rw ea c.1 in
      let g : Each Fits ((nets_from s bytes) x.at k) = rw ea f.1 in
      let q : length (net_out s ws p out) ≤ far = rw (eo, length-sets out p.to y) room in
      let b : x.to + length (flat_bytes ((nets_from s bytes) x.at k)) ≤ far = rw ea (omega arith) in
      all_out k (net_words s ws p) (words_clean s bytes ws clean p) x (rw ea i) d g (net_out s ws p out) q b
      ∙ (λ i. sets (eo i) (et i) (flat_bytes ((nets_from s bytes) (ea i) k)))
      ∙ sets_then out p.to (p.to + length y) y z refl
