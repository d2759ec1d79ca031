-- What the call answers and leaves is what the definitions say: on an accepted file the result is `write` of the file with each
-- net's links resolved.
use Rattle.std.specs.Prelude.{Ok, Err, ℕ, suc, ◌+◌, ◌≤◌, ◌<◌, ◌≡◌, Bool, get_or, set, eqb}
use Rattle.std.proofs.Math.Path.{refl, sym, ap}
use Rattle.std.proofs.Common.{◌∙◌, get_or-set_other}
use Rattle.std.proofs.Math.Bool.{true, false}
use mathlib.Core.List.{List, [], ◌∷◌, ◌++◌, map}
use native.Mathlib.Omega.{arith}
use Rattle.std.proofs.Math.ListN.{length, length-map}
use Rattle.net_file.specs.Lists.{Result, ok, any, concat_map}
use Rattle.net_file.specs.Values.{FlatNode, FlatNet, File}
use Rattle.net_file.specs.Write.{be, counted, write_flat_net}
use Rattle.net_file.specs.Checks.{flat, places, read, write}
use Rattle.net_file_laws.specs.Bytes.{Bytes}
use Rattle.net_file_laws.specs.Exact.{Each}
use Rattle.net_file_laws.proofs.RoundTrip.{flat_write_read}
use Rattle.conversions.specs.Links.{canonical, links_of}
use Rattle.conversions.specs.Convert.{◌>>=◌, resolve_flat}
use Rattle.conversions.specs.Calls.{convert, fitted, resolve_flat_call}
use Rattle.fields.specs.Fields.{be16}
use Rattle.stored.specs.Stored.{table_at, table_end, pair_count_at, flat_net_at, flat_net_end, net_count_at}
use Rattle.stored.specs.Laws.{table_length}
use Rattle.stored.specs.Parts.{stands_net}
use Rattle.stored.specs.Body.{nets_at, body_end}
use Rattle.ends.specs.Ends.{within, on, net_up, pairs_past, nodes_past}
use Rattle.readers_laws.specs.Reads.{read_inside}
use Rattle.clear.specs.Zeroed.{zeroed}
use Rattle.refusals.specs.declared.Refusal.{Refusal}
use Rattle.refusals.specs.declared.Refusal.TheVariants.{TooLittleLent}
use Rattle.net_check.specs.Verdict.{Checked, verdict}
use Rattle.wire_marks.specs.Marks.{mark, marked, canon}
use Rattle.wire_marks.specs.Canonical.{Ordered, a_pair, canon_exact, length_marked, Below, below_marked}
use Rattle.wire_places.specs.Places.{seen, places_inside, length_seen, seen_first, seen_all, occurs_exact}
use Rattle.low_wires.specs.Low.{Low, file_low, map_same, concat_map_lem}
use Rattle.low_wires.specs.Zeros.{zeroed_length, zeroed_get}
use Rattle.flat_writers.specs.Flat.{renamed, unused_by, resolved_by, resolved_by_lem}
use Rattle.pair_writers.specs.Pairs.{used, net_part, net_inside_lem}
use Rattle.convert_laws.specs.Tables.{count_inside}
use Rattle.convert_laws.specs.Frame.{with_nets, framed, convert_done, map_nets_lem, nets_stand, frame_written}
use Rattle.convert_frame.specs.Called.{Converted}
use Rattle.convert_frame.specs.Head.{head_bytes, head_length, head_framed}
use Rattle.convert_frame.specs.Called.{scratch_words, long, Called, Given, called_short, called_unread, called_read}
use Rattle.convert_frame.specs.Nets.{nets_exact}
use Rattle.flat_frame.specs.Nets.{parts_of, whole_of, result_of}
use Rattle.resolve_flat.specs.Nets.{mark_net, flat_nets, flat_whole, flat_result}

-- ---- two ways to say which wires are one, and which occur

module _ (c d : ℕ → ℕ) (e : (w : ℕ) → w < 65536 → c w ≡ d w) (u v : ℕ → Bool) (f : (w : ℕ) → w < 65536 → u w ≡ v w) where
  renamed_same : (ms : List FlatNode) → Each (λ (m : FlatNode). (m.pri < 65536) × Each (λ w. w < 65536) m.aux) ms → map (renamed c) ms ≡ map (renamed d) ms
  unfolding renamed
  renamed_same [] h = refl
  renamed_same (m ∷ ms) h =
      λ i. record { name = m.name; pri = e m.pri h.0.0 i; aux = map_same c d e (λ w. w) m.aux h.0.1 i } ∷ renamed_same ms h.1 i

  unused_same : (ps : List (ℕ × ℕ)) → Ordered ps → unused_by u ps ≡ unused_by v ps
  unfolding unused_by
  unused_same [] o = refl
  unused_same (p ∷ ps) (a_pair h k g₀ g₁ o) =
      λ i. elim (f p.0 (omega arith) i) as (λ t. List (ℕ × ℕ)) [ true ↦ unused_same ps o i | false ↦ p ∷ unused_same ps o i ]

  resolved_same : (n : FlatNet) → Low n → resolved_by c u n ≡ resolved_by d v n
  unfolding resolved_by
  resolved_same n h =
      λ i. record {
        name = n.name;
        included = n.included;
        wires = n.wires;
        free = map_same c d e (λ w. w) n.free h.free i;
        pairs = unused_same n.pairs h.pairs i;
        nodes = renamed_same n.nodes h.nodes i;
      }

-- ---- a scratch that holds no mark of a later stamp

-- in its first half, in its second half
abbrev Good : List ℕ → ℕ → Type 0
Good ws stamp = (131072 ≤ length ws) × Below (suc stamp) ws × ((i : ℕ) → i < 65536 → get_or ws (65536 + i) 0 ≤ stamp)

good_zeroed : (ws : List ℕ) → scratch_words ≤ length ws → Good (zeroed 131072 ws) 0
good_zeroed ws l = (
  rw zeroed_length (omega arith),
  λ i h. let z = zeroed_get 131072 ws i (omega arith) in rw z (omega arith),
  λ i h. let z = zeroed_get 131072 ws (65536 + i) (omega arith) in rw z (omega arith),
)

-- pairs are marked in the first half
marked_second : (stamp : ℕ) (ps : List (ℕ × ℕ)) → Ordered ps → (ws : List ℕ) (i : ℕ) → get_or (marked stamp ps ws) (65536 + i) 0 ≡ get_or ws (65536 + i) 0
unfolding marked
marked_second stamp [] o ws i = refl
marked_second stamp (p ∷ ps) (a_pair h k g₀ g₁ o) ws i =
    marked_second stamp ps o (set ws p.1 (mark stamp p.0)) i ∙ get_or-set_other ws p.1 (65536 + i) (mark stamp p.0) 0 (λ z. omega arith)

-- a wire is what its word says
canon_word : (ws v : List ℕ) (stamp w : ℕ) → get_or ws w 0 ≡ get_or v w 0 → canon ws stamp w ≡ canon v stamp w
unfolding canon
canon_word ws v stamp w e = rw e

module _ (s : List ℕ) where
  -- what is marked are the net's pairs and places
  mark_is : (ws : List ℕ) (stamp at : ℕ) → flat_net_end s at ≤ length s
      → mark_net s ws stamp at ≡ seen stamp (places (flat_net_at s at)) (marked stamp (flat_net_at s at).pairs ws)
  unfolding mark_net flat_net_at
  mark_is ws stamp at h =
      let e : within s (pair_count_at s at) ≡ pair_count_at s at = omega (arith, pairs_past s at, nodes_past s at) in
      rw (e, places_inside s at h)

  kept : (ws : List ℕ) (stamp at : ℕ) → flat_net_end s at ≤ length s → Low (flat_net_at s at) → Good ws stamp → Good (mark_net s ws (stamp + 1) at) (stamp + 1)
  kept ws stamp at h f g =
      let n = flat_net_at s at in
      let t = stamp + 1 in
      let v = marked t n.pairs ws in
      let b : Below (suc t) v = below_marked t n.pairs f.pairs ws (λ i m. omega (arith, g.1 i m)) in
      rw (mark_is ws t at h) (
        rw (length_seen, length_marked) g.0,
        λ i m. rw (seen_first t (places n) v i m) (b i m),
        λ i m. seen_all (λ x. x ≤ t) t (places n) v (65536 + i) (omega arith) (rw (marked_second t n.pairs f.pairs ws i) (omega (arith, g.2 i m))),
      )

  same : (ws : List ℕ) (stamp at : ℕ) → flat_net_end s at ≤ length s → Low (flat_net_at s at) → Good ws stamp
      → net_part (mark_net s ws (stamp + 1) at) (stamp + 1) s at ≡ write_flat_net (resolve_flat (flat_net_at s at))
  same ws stamp at h f g =
      let n = flat_net_at s at in
      let t = stamp + 1 in
      let v = marked t n.pairs ws in
      let u = seen t (places n) v in
      let c : (w : ℕ) → w < 65536 → canon u t w ≡ canonical (links_of n.pairs) w =
      λ w m. canon_word u v t w (seen_first t (places n) v w m) ∙ canon_exact t w n.pairs f.pairs ws (omega (arith, g.0)) (λ z. omega (arith, g.1 w m)) in
      let o : (w : ℕ) → w < 65536 → used u t w ≡ any (eqb w) (places n) =
      λ w m. occurs_exact t w m (places n) v (rw length_marked g.0) (λ z. omega (arith, g.2 w m, marked_second t n.pairs f.pairs ws w)) in
      ap (λ x. net_part x t s at) (mark_is ws t at h) ∙ net_inside_lem u t s at h
      ∙ ap write_flat_net (resolved_same (canon u t) (canonical (links_of n.pairs)) c (used u t) (λ a. any (eqb a) (places n)) o n f ∙ resolved_by_lem n)

-- ---- an accepted file

module _ (s ws : List ℕ) (b : Bytes s) (l : scratch_words ≤ length ws) (x : File FlatNet) (e : read flat s ≡ ok x) where
  q : ℕ
  q = net_count_at s

  nets : List FlatNet
  nets = nets_at flat_net_at flat_net_end s

  nets_of : List ℕ
  nets_of = concat_map (λ n. write_flat_net (resolve_flat n)) nets

  each_low : Each Low nets
  unfolding nets
  each_low = rw (nets_stand flat flat_net_at flat_net_end s (stands_net s) b x e) at (file_low s x (flat_write_read s b x e))

  inside : table_end (flat_net_end s) (q + 2) (be16 s q) ≤ length s
  unfolding q body_end
  inside = read_inside flat flat_net_at flat_net_end s (stands_net s) x e

  nets_are : flat_nets s (zeroed 131072 ws) 0 (q + 2) (be16 s q) ≡ nets_of
  unfolding parts_of nets_of nets nets_at q
  nets_are =
      nets_exact s (mark_net s) (λ ws stamp at. net_part ws stamp s at) (flat_net_end s) (flat_net_at s) (λ n. write_flat_net (resolve_flat n)) Low Good (net_up s)
      (kept s) (same s) (zeroed 131072 ws) 0 (q + 2) (be16 s q) inside each_low (good_zeroed ws l)

  whole_is : (n : ℕ) → flat_whole s ws n ≡ head_bytes s q 1 (be16 s q) n ++ nets_of
  unfolding whole_of q
  whole_is n =
      let i = count_inside flat flat_net_at flat_net_end s (stands_net s) b x e in
      let w : within s (net_count_at s) ≡ net_count_at s = omega arith in
      let o : on s (net_count_at s) 2 ≡ net_count_at s + 2 = omega arith in
      rw (w, o) (ap (λ t. head_bytes s (net_count_at s) 1 (be16 s (net_count_at s)) n ++ t) nets_are)

  result_is : flat_result s ws ≡ framed s 1 (be 2 (be16 s q) ++ nets_of)
  unfolding result_of q
  result_is =
      let k : length (flat_whole s ws 0) ≡ length (framed s 1 (be 2 (be16 s q) ++ nets_of)) = ap length (whole_is 0) ∙ head_length s 1 (be16 s q) nets_of 0 in
      whole_is (length (flat_whole s ws 0)) ∙ head_framed s 1 (be16 s q) nets_of (length (flat_whole s ws 0)) k

  written_is : write flat (with_nets x (map resolve_flat x.nets)) ≡ framed s 1 (be 2 (be16 s q) ++ nets_of)
  unfolding counted nets_of nets nets_at q
  written_is =
      let z = nets_stand flat flat_net_at flat_net_end s (stands_net s) b x e in
      let ns = table_at (flat_net_at s) (flat_net_end s) (net_count_at s + 2) (be16 s (net_count_at s)) in
      let n : length (map resolve_flat ns) ≡ be16 s (net_count_at s) = length-map ns resolve_flat ∙ table_length s (flat_net_at s) (flat_net_end s) (net_count_at s + 2) (be16 s (net_count_at s)) in
      let c = concat_map_lem write_flat_net resolve_flat ns in
      frame_written flat flat_net_at flat_net_end s (stands_net s) b x e flat (map resolve_flat x.nets)
      ∙ ap (λ ms. framed s 1 (be 2 (length (map resolve_flat ms)) ++ concat_map write_flat_net (map resolve_flat ms))) z
      ∙ (λ i. framed s 1 (be 2 (n i) ++ sym c i))

  -- what the definitions say of it
  pub flat_exact : (room : ℕ) → (convert (λ n. ok (resolve_flat n)) x >>= λ y. fitted room (write flat y)) ≡ fitted room (flat_result s ws)
  flat_exact room =
      ap (λ (r : Result (File FlatNet)). r >>= λ y. fitted room (write flat y)) (convert_done (λ n. ok (resolve_flat n)) x _ (map_nets_lem resolve_flat x.nets))
      ∙ ap (fitted room) (written_is ∙ sym result_is)

-- ---- the ways out of the call

module _ (s ws out : List ℕ) where
  pub call_short : length ws < scratch_words → Called (resolve_flat_call (long ws) (length out) s) ws out (Err TooLittleLent) ws out
  unfolding resolve_flat_call
  call_short h = called_short flat flat (λ n. ok (resolve_flat n)) s ws out h

  pub call_unread : (c : Checked) (r : Refusal) → scratch_words ≤ length ws → c ≡ verdict (read flat s) → c ≡ Err r
      → Called (resolve_flat_call (long ws) (length out) s) ws out (Err r) ws out
  unfolding resolve_flat_call
  call_unread c r h ec er = called_unread flat flat (λ n. ok (resolve_flat n)) s ws out c r h ec er

  pub call_read : (b : (i : ℕ) → get_or s i 0 < 256) (c : Checked) (r : Converted) (ws' out' : List ℕ) → scratch_words ≤ length ws → c ≡ verdict (read flat s) → c ≡ Ok tt
      → Given (fitted (length out) (flat_result s ws)) ws out r ws' out' → Called (resolve_flat_call (long ws) (length out) s) ws out r ws' out'
  unfolding resolve_flat_call
  call_read b c r ws' out' h ec ea g =
      called_read flat flat (λ n. ok (resolve_flat n)) s ws out c (fitted (length out) (flat_result s ws)) r ws' out' h ec ea (λ x e. flat_exact s ws b h x e (length out)) g
