-- What the call answers and leaves is what the definitions say: on an accepted file the result is `write` of the file with each net
-- taken to a tree.
use Rattle.std.specs.Prelude.{Ok, Err, ℕ, suc, ◌+◌, ◌≤◌, ◌<◌, ◌≡◌, get_or}
use Rattle.std.proofs.Math.Path.{refl, sym, ap}
use Rattle.std.proofs.Common.{◌∙◌}
use mathlib.Core.List.{List, [], ◌∷◌, ◌++◌, map}
use native.Mathlib.Omega.{arith}
use Rattle.std.proofs.Math.ListN.{length, length-map}
use Rattle.net_file.specs.Lists.{Result, ok, concat_map}
use Rattle.net_file.specs.Values.{FlatNode, FlatNet, wire, node, trees, TreeNet, File}
use Rattle.net_file.specs.Write.{be, counted, write_tree_net}
use Rattle.net_file.specs.Checks.{flat, tree, read, write}
use Rattle.net_file_laws.specs.Bytes.{Bytes}
use Rattle.net_file_laws.specs.Exact.{Each}
use Rattle.net_file_laws.proofs.RoundTrip.{flat_write_read}
use Rattle.conversions.specs.Links.{canonical, links_of}
use Rattle.conversions.specs.Convert.{◌>>=◌, to_tree}
use Rattle.conversions.specs.Calls.{convert, fitted, to_tree_call}
use Rattle.fields.specs.Fields.{be16}
use Rattle.stored.specs.Stored.{table_at, table_end, pair_count_at, flat_net_at, flat_net_end, net_count_at}
use Rattle.stored.specs.Laws.{table_length}
use Rattle.stored.specs.Parts.{stands_net}
use Rattle.stored.specs.Body.{nets_at, body_end}
use Rattle.ends.specs.Ends.{within, on, net_up, pairs_past, nodes_past}
use Rattle.readers_laws.specs.Reads.{read_inside}
use Rattle.clear.specs.Zeroed.{zeroed}
use Rattle.refusals.specs.declared.Refusal.{Refusal}
use Rattle.refusals.specs.declared.Refusal.TheVariants.{TooLittleLent}
use Rattle.net_check.specs.Verdict.{Checked, verdict}
use Rattle.wire_marks.specs.Marks.{marked, canon}
use Rattle.wire_marks.specs.Canonical.{canon_exact, length_marked, Below, below_marked}
use Rattle.low_wires.specs.Low.{Low, file_low, map_same, concat_map_lem}
use Rattle.low_wires.specs.Zeros.{zeroed_length, zeroed_get}
use Rattle.tree_writers.specs.Trees.{hung, tree_by, tree_by_lem, net_part, net_inside_lem}
use Rattle.convert_laws.specs.Tables.{count_inside}
use Rattle.convert_laws.specs.Frame.{with_nets, framed, convert_done, map_nets_lem, nets_stand, frame_written}
use Rattle.convert_frame.specs.Called.{Converted}
use Rattle.convert_frame.specs.Head.{head_bytes, head_length, head_framed}
use Rattle.convert_frame.specs.Called.{scratch_words, long, Called, Given, called_short, called_unread, called_read}
use Rattle.convert_frame.specs.Nets.{nets_exact}
use Rattle.flat_frame.specs.Nets.{parts_of, whole_of, result_of}
use Rattle.tree_from_flat.specs.Nets.{mark_net, tree_nets, tree_whole, tree_result}

-- ---- two ways to say which wires are one

module _ (c d : ℕ → ℕ) (e : (w : ℕ) → w < 65536 → c w ≡ d w) where
  hung_same : (ms : List FlatNode) → Each (λ (m : FlatNode). (m.pri < 65536) × Each (λ w. w < 65536) m.aux) ms → map (hung c) ms ≡ map (hung d) ms
  unfolding hung
  hung_same [] h = refl
  hung_same (m ∷ ms) h = λ i. (wire (e m.pri h.0.0 i), node m.name (trees (map_same c d e wire m.aux h.0.1 i))) ∷ hung_same ms h.1 i

  tree_same : (n : FlatNet) → Low n → tree_by c n ≡ tree_by d n
  unfolding tree_by
  tree_same n h = λ i. record { name = n.name; included = n.included; wires = n.wires; free = map_same c d e wire n.free h.free i; links = hung_same n.nodes h.nodes i }

-- ---- a scratch that holds no mark of a later stamp

abbrev Good : List ℕ → ℕ → Type 0
Good ws stamp = (65536 ≤ length ws) × Below (suc stamp) ws

good_zeroed : (ws : List ℕ) → scratch_words ≤ length ws → Good (zeroed 65536 ws) 0
good_zeroed ws l = (rw zeroed_length (omega arith), λ i h. let z = zeroed_get 65536 ws i (omega arith) in rw z (omega arith))

module _ (s : List ℕ) where
  -- the pairs that are marked are the net's
  mark_is : (ws : List ℕ) (stamp at : ℕ) → flat_net_end s at ≤ length s → mark_net s ws stamp at ≡ marked stamp (flat_net_at s at).pairs ws
  unfolding mark_net flat_net_at
  mark_is ws stamp at h = let e : within s (pair_count_at s at) ≡ pair_count_at s at = omega (arith, pairs_past s at, nodes_past s at) in rw e

  kept : (ws : List ℕ) (stamp at : ℕ) → flat_net_end s at ≤ length s → Low (flat_net_at s at) → Good ws stamp → Good (mark_net s ws (stamp + 1) at) (stamp + 1)
  kept ws stamp at h f g =
      let n = flat_net_at s at in
      let b : Below (suc (stamp + 1)) (marked (stamp + 1) n.pairs ws) = below_marked (stamp + 1) n.pairs f.pairs ws (λ i m. omega (arith, g.1 i m)) in
      rw (mark_is ws (stamp + 1) at h) (rw length_marked g.0, b)

  same : (ws : List ℕ) (stamp at : ℕ) → flat_net_end s at ≤ length s → Low (flat_net_at s at) → Good ws stamp
      → net_part (mark_net s ws (stamp + 1) at) (stamp + 1) s at ≡ write_tree_net (to_tree (flat_net_at s at))
  same ws stamp at h f g =
      let n = flat_net_at s at in
      let t = stamp + 1 in
      let c : (w : ℕ) → w < 65536 → canon (marked t n.pairs ws) t w ≡ canonical (links_of n.pairs) w =
      λ w m. canon_exact t w n.pairs f.pairs ws g.0 (λ z. omega (arith, g.1 w m)) in
      ap (λ u. net_part u t s at) (mark_is ws t at h) ∙ net_inside_lem (marked t n.pairs ws) t s at h
      ∙ ap write_tree_net (tree_same (canon (marked t n.pairs ws) t) (canonical (links_of n.pairs)) c n f ∙ tree_by_lem n)

-- ---- an accepted file

module _ (s ws : List ℕ) (b : Bytes s) (l : scratch_words ≤ length ws) (x : File FlatNet) (e : read flat s ≡ ok x) where
  q : ℕ
  q = net_count_at s

  nets : List FlatNet
  nets = nets_at flat_net_at flat_net_end s

  trees_of_lem : List ℕ
  trees_of_lem = concat_map (λ n. write_tree_net (to_tree n)) nets

  each_low : Each Low nets
  unfolding nets
  each_low = rw (nets_stand flat flat_net_at flat_net_end s (stands_net s) b x e) at (file_low s x (flat_write_read s b x e))

  inside : table_end (flat_net_end s) (q + 2) (be16 s q) ≤ length s
  unfolding q body_end
  inside = read_inside flat flat_net_at flat_net_end s (stands_net s) x e

  nets_are : tree_nets s (zeroed 65536 ws) 0 (q + 2) (be16 s q) ≡ trees_of_lem
  unfolding parts_of trees_of_lem nets nets_at q
  nets_are =
      nets_exact s (mark_net s) (λ ws stamp at. net_part ws stamp s at) (flat_net_end s) (flat_net_at s) (λ n. write_tree_net (to_tree n)) Low Good (net_up s)
      (kept s) (same s) (zeroed 65536 ws) 0 (q + 2) (be16 s q) inside each_low (good_zeroed ws l)

  whole_is : (n : ℕ) → tree_whole s ws n ≡ head_bytes s q 65 (be16 s q) n ++ trees_of_lem
  unfolding whole_of q
  whole_is n =
      let i = count_inside flat flat_net_at flat_net_end s (stands_net s) b x e in
      let w : within s (net_count_at s) ≡ net_count_at s = omega arith in
      let o : on s (net_count_at s) 2 ≡ net_count_at s + 2 = omega arith in
      rw (w, o) (ap (λ t. head_bytes s (net_count_at s) 65 (be16 s (net_count_at s)) n ++ t) nets_are)

  result_is : tree_result s ws ≡ framed s 65 (be 2 (be16 s q) ++ trees_of_lem)
  unfolding result_of q
  result_is =
      let k : length (tree_whole s ws 0) ≡ length (framed s 65 (be 2 (be16 s q) ++ trees_of_lem)) = ap length (whole_is 0) ∙ head_length s 65 (be16 s q) trees_of_lem 0 in
      whole_is (length (tree_whole s ws 0)) ∙ head_framed s 65 (be16 s q) trees_of_lem (length (tree_whole s ws 0)) k

  written_is : write tree (with_nets x (map to_tree x.nets)) ≡ framed s 65 (be 2 (be16 s q) ++ trees_of_lem)
  unfolding counted trees_of_lem nets nets_at q
  written_is =
      let z = nets_stand flat flat_net_at flat_net_end s (stands_net s) b x e in
      let ns = table_at (flat_net_at s) (flat_net_end s) (net_count_at s + 2) (be16 s (net_count_at s)) in
      let n : length (map to_tree ns) ≡ be16 s (net_count_at s) = length-map ns to_tree ∙ table_length s (flat_net_at s) (flat_net_end s) (net_count_at s + 2) (be16 s (net_count_at s)) in
      let c = concat_map_lem write_tree_net to_tree ns in
      frame_written flat flat_net_at flat_net_end s (stands_net s) b x e tree (map to_tree x.nets)
      ∙ ap (λ ms. framed s 65 (be 2 (length (map to_tree ms)) ++ concat_map write_tree_net (map to_tree ms))) z
      ∙ (λ i. framed s 65 (be 2 (n i) ++ sym c i))

  -- what the definitions say of it
  pub tree_exact : (room : ℕ) → (convert (λ n. ok (to_tree n)) x >>= λ y. fitted room (write tree y)) ≡ fitted room (tree_result s ws)
  tree_exact room =
      ap (λ (r : Result (File TreeNet)). r >>= λ y. fitted room (write tree y)) (convert_done (λ n. ok (to_tree n)) x _ (map_nets_lem to_tree x.nets))
      ∙ ap (fitted room) (written_is ∙ sym result_is)

-- ---- the ways out of the call

module _ (s ws out : List ℕ) where
  pub call_short : length ws < scratch_words → Called (to_tree_call (long ws) (length out) s) ws out (Err TooLittleLent) ws out
  unfolding to_tree_call
  call_short h = called_short flat tree (λ n. ok (to_tree n)) s ws out h

  pub call_unread : (c : Checked) (r : Refusal) → scratch_words ≤ length ws → c ≡ verdict (read flat s) → c ≡ Err r
      → Called (to_tree_call (long ws) (length out) s) ws out (Err r) ws out
  unfolding to_tree_call
  call_unread c r h ec er = called_unread flat tree (λ n. ok (to_tree n)) s ws out c r h ec er

  pub call_read : (b : (i : ℕ) → get_or s i 0 < 256) (c : Checked) (r : Converted) (ws' out' : List ℕ) → scratch_words ≤ length ws → c ≡ verdict (read flat s) → c ≡ Ok tt
      → Given (fitted (length out) (tree_result s ws)) ws out r ws' out' → Called (to_tree_call (long ws) (length out) s) ws out r ws' out'
  unfolding to_tree_call
  call_read b c r ws' out' h ec ea g =
      called_read flat tree (λ n. ok (to_tree n)) s ws out c (fitted (length out) (tree_result s ws)) r ws' out' h ec ea (λ x e. tree_exact s ws b h x e (length out)) g
