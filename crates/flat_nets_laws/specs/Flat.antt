-- A net measured and written: its bytes are those of the flat net that the definitions give.
use Rattle.std.specs.Prelude.{ℕ, ◌+◌, ◌*◌, ◌/◌, ◌%◌, ◌<◌, ◌≤◌, min, ◌≡◌, get_or, eqb}
use Rattle.std.proofs.Math.Path.{refl, ap}
use Rattle.std.proofs.Common.{sym, ◌∙◌, length-append}
use mathlib.Core.List.{List, [], ◌∷◌, ◌++◌, append_assoc}
use native.Mathlib.Omega.{arith}
use Rattle.std.proofs.Math.ListN.{length}
use Rattle.std.proofs.Math.Seq.{sets, length-sets}
use Rattle.net_file.specs.Lists.{concat_map}
use Rattle.net_file.specs.Values.{trees, TreeNet}
use Rattle.net_file.specs.Write.{be, counted, write_head, write_pair, write_node, write_flat_net}
use Rattle.net_file_laws.specs.Bytes.{Bytes, length_be}
use Rattle.fields.specs.Fields.{byte, be16, be32}
use Rattle.stored_tree.specs.Tree.{tree_end, tree_at, tree_net_at, tree_net_end}
use Rattle.put.specs.Written.{numbers}
use Rattle.put.specs.Fields.{size_numbers}
use Rattle.text_writers.specs.Wrote.{far, Wrote}
use Rattle.conversions.specs.Links.{pairs_of}
use Rattle.wire_links.specs.Table.{on, looks_below, pair_count, pairs_end, pairs_out}
use Rattle.wire_links_laws.specs.Means.{Means}
use Rattle.wire_links_laws.specs.Top.{looks_low, pairs_scanned}
use Rattle.wire_links_laws.specs.Pairs.{pairs_in, pairs_mean, pairs_counted, pairs_wrote}
use Rattle.embed_laws.specs.Numbers.{tops, flats_all}
use Rattle.embed_laws.specs.Nets.{free_wires, flat_wires, flat_links, flat_nodes, flat_of, links_flats}
use Rattle.embed_walk_laws.specs.Sizes.{bytes_all, nodes_append, all_size, tops_long, kids_long}
use Rattle.embed_walk_laws.specs.Sets.{sets_comm, sets_then}
use Rattle.flat_nets.specs.declared.Spot.{Spot}
use Rattle.flat_nets.specs.Flat.{linked, measured, size, head_of, head_written, pairs_count_at, nodes_count_at, before_place, before_written, nodes_at, net_spot, net_out}
use Rattle.flat_nets_laws.specs.Links.{links_bytes, links_size_lem}
use Rattle.flat_nets_laws.specs.Clean.{Clean, clean_means, linked_topped}
use Rattle.flat_nets_laws.specs.Net.{node_count, node_bytes, nodes_long, net_end_lem, net_wires_lem, net_nodes_lem, net_to, net_means, net_laid}

-- the bytes of a net's nodes
pub nodes_size : (n : TreeNet) → length (concat_map write_node (flat_nodes n)) ≡ node_bytes n
unfolding flat_nodes node_bytes bytes_all links_bytes
nodes_size n =
    let a = all_size (trees n.free) n.wires in
    let b = links_size_lem n.links (free_wires n) in
    rw (nodes_append (flats_all (trees n.free) n.wires) (links_flats n.links (free_wires n)), length-append) (omega arith)

pairs_size : (ps : List (ℕ × ℕ)) → length (concat_map write_pair ps) ≡ 4 * length ps
unfolding write_pair
pairs_size [] = refl
pairs_size (p ∷ ps) = let e = pairs_size ps in simp (length-append, length_be) (omega arith)

-- ---- the parts of a flat net's bytes: head, free wires, pairs and counts, nodes

module _ (n : TreeNet) where
  abbrev flat_pairs : List (ℕ × ℕ)
  flat_pairs = pairs_of (flat_links n) (flat_wires n)

  abbrev free_tops : List ℕ
  free_tops = tops (trees n.free) n.wires

  abbrev head_part : List ℕ
  head_part = write_head n.name n.included (flat_wires n) ++ be 1 (length free_tops)

  abbrev counts_part : List ℕ
  counts_part = be 2 (length flat_pairs) ++ (concat_map write_pair flat_pairs ++ be 2 (length (flat_nodes n)))

  flat_parts : write_flat_net (flat_of n) ≡ head_part ++ (numbers free_tops ++ (counts_part ++ concat_map write_node (flat_nodes n)))
  unfolding write_flat_net flat_of counted numbers
  flat_parts = simp append_assoc

  head_long : length head_part ≡ 8
  unfolding write_head
  head_long = simp (length-append, length_be)

  counts_long : length counts_part ≡ 4 + 4 * length flat_pairs
  counts_long = let e = pairs_size flat_pairs in simp (length-append, length_be) (omega arith)

  pub flat_long : length (write_flat_net (flat_of n)) ≡ 12 + 2 * length free_tops + 4 * length flat_pairs + node_bytes n
  flat_long =
      let a = head_long in
      let b = (size_numbers free_tops).is in
      let c = counts_long in
      let d = nodes_size n in
      let e₁ = length-append counts_part (concat_map write_node (flat_nodes n)) in
      let e₂ = length-append (numbers free_tops) (counts_part ++ concat_map write_node (flat_nodes n)) in
      let e₃ = length-append head_part (numbers free_tops ++ (counts_part ++ concat_map write_node (flat_nodes n))) in
      ap length flat_parts ∙ omega arith

-- two bytes say a number up to 65,535
two_wraps : (x : ℕ) → be 2 (x % 65536) ≡ be 2 x
unfolding be
two_wraps x =
    let a : x % 65536 / 256 % 256 ≡ x / 256 % 256 = omega arith in
    let b : x % 65536 / 1 % 256 ≡ x / 1 % 256 = omega arith in
    λ i. a i ∷ b i ∷ []

-- three parts, one right after another
three_parts : (y : List ℕ) (c p q : ℕ) (a b d : List ℕ) → p ≡ c + length a → q ≡ p + length b → sets (sets (sets y c a) p b) q d ≡ sets y c (a ++ (b ++ d))
three_parts y c p q a b d e f =
    let l = length-append a b in
    ap (λ (z : List ℕ). sets z q d) (sets_then y c p a b e) ∙ sets_then y c q (a ++ b) d (omega arith) ∙ ap (sets y c) (append_assoc a b d)

-- a part between two others, written last but one
middle_late : (y : List ℕ) (a c n : ℕ) (f p z : List ℕ) → c ≡ a + length f → n ≡ c + length p → sets (sets (sets y c p) a f) n z ≡ sets y a (f ++ (p ++ z))
middle_late y a c n f p z e g = ap (λ (x : List ℕ). sets x n z) (sets_comm y a c f p (omega arith)) ∙ three_parts y a c n f p z e g

-- ---- measured

module _ (s : List ℕ) (bytes : Bytes s) (at : ℕ) (inside : tree_net_end s at ≤ length s) (low : be32 s (at + 3) ≤ 65536) (ws : List ℕ) where
  abbrev net : TreeNet
  net = tree_net_at s at

  pub measured_end : (measured s ws at).end ≡ tree_net_end s at
  unfolding measured
  measured_end = net_end_lem s bytes at inside low 0 0 (omega arith)

  pub measured_wires : (measured s ws at).wires ≡ min 65537 (flat_wires net)
  unfolding measured
  measured_wires = net_wires_lem s bytes at inside low 0 0 (omega arith)

  measured_nodes : (measured s ws at).nodes ≡ min 65537 (node_count net)
  unfolding measured
  measured_nodes = net_nodes_lem s bytes at inside low 0 0 (omega arith)

  measured_bytes : (measured s ws at).bytes ≡ min far (node_bytes net)
  unfolding measured
  measured_bytes = net_to s bytes at inside low 0 0 (omega arith) ∙ omega arith

  free_many : length (free_tops net) ≡ byte s (at + 7)
  unfolding tree_net_at
  free_many = tops_long (trees net.free) net.wires ∙ kids_long s (at + 8) (tree_at s 64) (tree_end s 64) (byte s (at + 7))

  pairs_of_lem : (measured s ws at).pairs ≡ pair_count (linked s ws at) (measured s ws at).wires
  unfolding measured
  pairs_of_lem = refl

  -- where its wires fit, and the table is without links
  module _ (fits : flat_wires net ≤ 65536) (clean : Clean ws) where
    fit_wires : (measured s ws at).wires ≡ flat_wires net
    fit_wires = let w = measured_wires in omega arith

    linked_means : Means (linked s ws at) (flat_links net)
    unfolding linked
    linked_means = net_means s bytes at inside low 0 0 (omega arith) fits ws (clean_means ws clean)

    -- the wires that are looked at for pairs
    abbrev looks : List ℕ
    looks = looks_below (linked s ws at) (flat_wires net)

    linked_pairs : pairs_in (linked s ws at) looks ≡ flat_pairs net
    linked_pairs =
        pairs_scanned (linked s ws at) (linked_topped s bytes ws clean at) (flat_wires net) fits ∙ pairs_mean (linked s ws at) (flat_links net) linked_means (flat_wires net) fits

    measured_pairs : (measured s ws at).pairs ≡ length (flat_pairs net)
    unfolding pair_count
    measured_pairs = pairs_of_lem ∙ ap (pair_count (linked s ws at)) fit_wires ∙ pairs_counted (linked s ws at) looks ∙ ap length linked_pairs

    -- how many bytes it takes, as far as that can be said
    pub size_is : size s at (measured s ws at) ≡ min far (length (write_flat_net (flat_of net)))
    unfolding size on
    size_is =
        let b = measured_bytes in
        let p = measured_pairs in
        let k = free_many in
        let l = flat_long net in
        omega arith

    -- ---- written

    module _ (few : node_count net ≤ 65536) (to : ℕ) (out : List ℕ) (room : length out ≤ far) (said : to + length (write_flat_net (flat_of net)) ≤ far) where
      abbrev spot : Spot
      spot = record { at = at; to = to }

      all_said : to + (12 + 2 * byte s (at + 7) + 4 * length (flat_pairs net) + node_bytes net) ≤ far
      all_said = let l = flat_long net in let k = free_many in omega arith

      free_place : on to 8 ≡ to + 8
      unfolding on
      free_place = let q = all_said in omega arith

      counts_place : pairs_count_at s at to ≡ to + 8 + 2 * byte s (at + 7)
      unfolding pairs_count_at on
      counts_place = let q = all_said in omega arith

      pairs_place : on (pairs_count_at s at to) 2 ≡ pairs_count_at s at to + 2
      unfolding on
      pairs_place = let q = all_said in let c = counts_place in omega arith

      words_low : (a : ℕ) → a < 65536 → get_or (linked s ws at) a 0 ≤ 65536
      words_low a h = rw (linked_means.word a h) (linked_means.low a h)

      -- the pairs, after anything
      pairs_laid : (o : List ℕ) → length o ≤ far → Wrote (concat_map write_pair (flat_pairs net)) (pairs_count_at s at to + 2) o
          (pairs_out (linked s ws at) (measured s ws at).wires (on (pairs_count_at s at to) 2) o) (nodes_count_at s (linked s ws at) at to (measured s ws at))
      unfolding nodes_count_at pairs_end pairs_out
      pairs_laid o l =
          let q = all_said in
          let c = counts_place in
          rw (pairs_place, fit_wires, ← linked_pairs) (pairs_wrote (linked s ws at) words_low looks (looks_low (linked s ws at) (flat_wires net) fits) (pairs_count_at s at to + 2) o (omega arith) l)

      count_place : nodes_count_at s (linked s ws at) at to (measured s ws at) ≡ pairs_count_at s at to + 2 + length (concat_map write_pair (flat_pairs net))
      count_place =
          let q = all_said in
          let c = counts_place in
          let l = pairs_size (flat_pairs net) in
          let e = (pairs_laid [] (omega arith)).is in
          omega arith

      nodes_place : nodes_at s ws spot ≡ to + 8 + 2 * byte s (at + 7) + length (counts_part net)
      unfolding nodes_at before_place on
      nodes_place =
          let q = all_said in
          let c = counts_place in
          let l = pairs_size (flat_pairs net) in
          let e = count_place in
          let m = counts_long net in
          omega arith

      head_is : head_of s at (measured s ws at).wires ≡ head_part net
      unfolding head_of tree_net_at
      head_is = λ i. write_head (be16 s at) (eqb (byte s (at + 2)) 1) (fit_wires i) ++ be 1 (sym free_many i)

      before_laid : before_written s (linked s ws at) at to (measured s ws at) out ≡ sets (sets out to (head_part net)) (pairs_count_at s at to) (counts_part net)
      unfolding before_written head_written
      before_laid =
          let m = measured s ws at in
          let c = pairs_count_at s at to in
          let y = sets out to (head_part net) in
          let a = be 2 (length (flat_pairs net)) in
          let d = be 2 (length (flat_nodes net)) in
          let ea : be 2 (m.pairs % 65536) ≡ a = two_wraps m.pairs ∙ ap (be 2) measured_pairs in
          let n = measured_nodes in
          let g = nodes_long net in
          let en : m.nodes ≡ length (flat_nodes net) = omega arith in
          let ed : be 2 (m.nodes % 65536) ≡ d = two_wraps m.nodes ∙ ap (be 2) en in
          let o = sets y c a in
          let lo : length o ≤ far = rw (length-sets y c a, length-sets out to (head_part net)) room in
          let la = length_be 2 (length (flat_pairs net)) in
          rw (head_is, ea, ed) (ap (λ (z : List ℕ). sets z (nodes_count_at s (linked s ws at) at to m) d) (pairs_laid o lo).out
          ∙ three_parts y c (c + 2) (nodes_count_at s (linked s ws at) at to m) a (concat_map write_pair (flat_pairs net)) d (omega arith) count_place)

      -- the whole net
      pub net_out_lem : net_out s ws spot out ≡ sets out to (write_flat_net (flat_of net))
      unfolding net_out
      net_out_lem =
          let q = all_said in
          let np = nodes_place in
          let cl = counts_long net in
          let x = before_written s (linked s ws at) at to (measured s ws at) out in
          let z = concat_map write_node (flat_nodes net) in
          let f = numbers (free_tops net) in
          let lf : length f ≡ 2 * byte s (at + 7) = (size_numbers (free_tops net)).is ∙ ap (λ k. 2 * k) free_many in
          let lh = head_long net in
          let y = sets out to (head_part net) in
          let e₁ = net_laid s bytes at inside low (nodes_at s ws spot) (on to 8) (omega arith) fits (omega arith) (rw free_place (omega arith)) x in
          e₁ ∙ ap (λ (v : List ℕ). sets (sets v (on to 8) f) (nodes_at s ws spot) z) before_laid
          ∙ rw free_place (middle_late y (to + 8) (pairs_count_at s at to) (nodes_at s ws spot) f (counts_part net) z (let c = counts_place in omega arith) (let c = counts_place in omega arith)
          ∙ sets_then out to (to + 8) (head_part net) (f ++ (counts_part net ++ z)) (omega arith))
          ∙ ap (sets out to) (sym (flat_parts net))

      pub spot_at : (net_spot s ws spot).at ≡ tree_net_end s at
      unfolding net_spot
      spot_at = let q = all_said in let n = nodes_place in let c = counts_long net in net_end_lem s bytes at inside low (nodes_at s ws spot) (on to 8) (omega arith)

      pub spot_to : (net_spot s ws spot).to ≡ to + length (write_flat_net (flat_of net))
      unfolding net_spot
      spot_to =
          let q = all_said in
          let n = nodes_place in
          let c = counts_long net in
          let l = flat_long net in
          let k = free_many in
          net_to s bytes at inside low (nodes_at s ws spot) (on to 8) (omega arith) ∙ omega arith
