-- What a scan of k trees from a place on tells: its wires in order, its nodes, and the place behind it.
use Prim.Native.Nat.{ℕ, zero, suc, ◌+◌, ◌*◌, ◌-◌, ◌<◌, ◌≤◌, min}
use Rattle.std.specs.Prelude.{◌≡◌, List, [], ◌∷◌, ◌++◌, map}
use Rattle.std.proofs.Math.Path.{sym}
use Rattle.std.proofs.Common.{ap, ◌∙◌, sub-one, not-suc-le-zero}
use native.Mathlib.Omega.{arith}
use Rattle.std.proofs.Math.ListN.{length}
use Rattle.net_file.specs.Lists.{concat_map, sum}
use Rattle.fields.specs.Fields.{byte, be16, byte_past, be16_past}
use Rattle.stored_tree.specs.Tree.{on_tag}
use Rattle.scan_tree.specs.declared.Scan.{Scan}
use Rattle.scan_tree.specs.Scan.{fit, begin, behind, step, places, fit_live, fit_most, places_none, places_step, step_live, step_on, step_to, tag_wire, tag_node}

module _ (s : List ℕ) where
  -- the places of k trees that stand from `at` on, and of all trees in them
  unfoldable pub scan : ℕ → ℕ → List ℕ
  scan at k = places s at (fit s at k)

  -- the wire at a tree's place, or none
  unfoldable pub wire_at : ℕ → List ℕ
  wire_at at = on_tag (byte s at) (be16 s (at + 1) ∷ []) []

  -- the node there, as a number
  unfoldable pub node_at : ℕ → ℕ
  node_at at = on_tag (byte s at) 0 1

  abbrev pub nodes_among : List ℕ → ℕ
  nodes_among ps = sum (map node_at ps)

  -- the place behind the last, or the one where all began; nothing is behind the file's end
  abbrev pub end_after : ℕ → List ℕ → ℕ
  end_after at [] = at
  end_after at (p ∷ ps) = end_after (behind s p) ps

  unfoldable pub wires_from : ℕ → ℕ → List ℕ
  wires_from at k = concat_map wire_at (scan at k)

  unfoldable pub nodes_from : ℕ → ℕ → ℕ
  nodes_from at k = nodes_among (scan at k)

  unfoldable pub end_from : ℕ → ℕ → ℕ
  end_from at k = min (length s) (end_after at (scan at k))

  pub node_zero : (at b : ℕ) → b ≡ byte s at → b ≡ 0 → 0 ≡ node_at at
  unfolding node_at
  node_zero at b e z = sym (tag_wire 0 1 (byte s at) (sym e ∙ z))

  pub node_one : (at b : ℕ) → b ≡ byte s at → (b ≡ 0 → ⊥) → 1 ≡ node_at at
  unfolding node_at
  node_one at b e z = sym (tag_node 0 1 (byte s at) (λ h. z (e ∙ h)))

  -- ---- a scan that is under way

  -- with what is still to come it ends where the whole does
  pub record Runs (from k : ℕ) (c : Scan) : Type 0 where
    pub end : min (length s) (end_after c.at (places s c.at c.left)) ≡ end_from from k
    pub live : c.left ≤ length s - c.at

  module _ (from k : ℕ) (c : Scan) where
    pub runs_begin : c ≡ begin s from k → Runs from k c
    unfolding begin end_from scan
    runs_begin e = record { end = rw e; live = rw e (fit_live s from k) }

    module _ (d : Scan) (h : Runs from k c) (l : 0 < c.left) (e : d ≡ step s c.at c.left) where
      pub runs_next : places s c.at c.left ≡ c.at ∷ places s d.at d.left
      runs_next = places_step s c.at c.left d l h.live e

      pub runs_more : Runs from k d
      runs_more =
          let f : min (length s) (end_after (behind s c.at) (places s d.at d.left)) ≡ end_from from k = rw runs_next at h.end in
          record {
            end = ap (λ at. min (length s) (end_after at (places s d.at d.left))) (step_to s c.at c.left d l h.live e) ∙ f;
            live = step_live s c.at c.left d l h.live e;
          }

      pub runs_on : c.at < d.at
      runs_on = step_on s c.at c.left d l h.live e

      -- what is left of the bytes falls
      pub runs_less : length s - d.at < length s - c.at
      runs_less = let v = h.live in omega (arith, runs_on)

    module _ (h : Runs from k c) (l : c.left ≤ 0) where
      pub runs_none : places s c.at c.left ≡ []
      runs_none = let z : c.left ≡ 0 = omega arith in rw (z, places_none s c.at)

      ended : min (length s) c.at ≡ end_from from k
      ended = rw runs_none at h.end

      pub runs_past : length s < c.at → length s ≡ end_from from k
      runs_past i = omega (arith, ended)

      pub runs_end : c.at ≤ length s → c.at ≡ end_from from k
      runs_end i = omega (arith, ended)

  -- ---- a count that is under way

  -- with what is still to come it is the whole
  pub record Counts (from k : ℕ) (c : Scan) (n : ℕ) : Type 0 where
    pub runs : Runs from k c
    pub nodes : n + nodes_among (places s c.at c.left) ≡ nodes_from from k
    pub few : n ≤ c.at
    pub most : n ≤ length s

  module _ (from k : ℕ) (c : Scan) where
    pub counts_begin : c ≡ begin s from k → Counts from k c 0
    unfolding begin nodes_from scan
    counts_begin e = record { runs = runs_begin from k c e; nodes = rw e (omega arith); few = omega arith; most = omega arith }

    pub counts_more : (d : Scan) (n b : ℕ) → Counts from k c n → 0 < c.left → b ≡ node_at c.at → b ≤ 1 → d ≡ step s c.at c.left → Counts from k d (n + b)
    counts_more d n b h l eb l1 ed =
        let e : n + (node_at c.at + nodes_among (places s d.at d.left)) ≡ nodes_from from k = rw (runs_next from k c d h.runs l ed) at h.nodes in
        let o = runs_on from k c d h.runs l ed in
        let v = h.runs.live in
        record { runs = runs_more from k c d h.runs l ed; nodes = omega arith; few = omega arith; most = omega arith }

    pub counts_nodes : (n : ℕ) → Counts from k c n → c.left ≤ 0 → n ≡ nodes_from from k
    counts_nodes n h l =
        let e : n + 0 ≡ nodes_from from k = rw (runs_none from k c h.runs l) at h.nodes in
        omega arith

-- ---- a net

module _ (s : List ℕ) (at : ℕ) where
  -- the place of the link count, behind the free trees
  unfoldable pub links_at : ℕ
  links_at = end_from s (at + 8) (byte s (at + 7))

  -- the nodes of the free trees and of the links, of which each is two trees
  unfoldable pub net_nodes : ℕ
  net_nodes = nodes_from s (at + 8) (byte s (at + 7)) + nodes_from s (links_at + 2) (2 * be16 s links_at)

  unfoldable pub net_wires : List ℕ
  net_wires = wires_from s (at + 8) (byte s (at + 7)) ++ wires_from s (links_at + 2) (2 * be16 s links_at)

  unfoldable pub net_end : ℕ
  net_end = end_from s (links_at + 2) (2 * be16 s links_at)

  -- past the file's end there is nothing
  scan_past : (a : ℕ) → scan s a 0 ≡ []
  unfolding scan
  scan_past a = let e : fit s a 0 ≡ 0 = omega (arith, fit_most s a 0) in rw (e, places_none s a)

  nodes_past : (a : ℕ) → nodes_from s a 0 ≡ 0
  unfolding nodes_from
  nodes_past a = rw (scan_past a)

  wires_past : (a : ℕ) → wires_from s a 0 ≡ []
  unfolding wires_from
  wires_past a = rw (scan_past a)

  end_past : (a : ℕ) → length s ≤ a → end_from s a 0 ≡ length s
  unfolding end_from
  end_past a h = rw (scan_past a) (omega arith)

  pub links_past : length s < at → length s ≡ links_at
  unfolding links_at
  links_past h = rw (byte_past s (at + 7) (omega arith)) (sym (end_past (at + 8) (omega arith)))

  pub links_is : (free p : ℕ) → free ≡ byte s (at + 7) → p ≡ end_from s (at + 8) free → p ≡ links_at
  unfolding links_at
  links_is free p ef ep = rw (ep, ef)

  pub net_nodes_past : length s < at → 0 ≡ net_nodes
  unfolding net_nodes
  net_nodes_past h =
      let e : links_at ≡ length s = sym (links_past h) in
      let z : be16 s (length s) ≡ 0 = be16_past s (length s) (omega arith) in
      rw (byte_past s (at + 7) (omega arith), e, z, nodes_past (at + 8), nodes_past (length s + 2))

  pub net_wires_past : length s < at → net_wires ≡ []
  unfolding net_wires
  net_wires_past h =
      let e : links_at ≡ length s = sym (links_past h) in
      let z : be16 s (length s) ≡ 0 = be16_past s (length s) (omega arith) in
      rw (byte_past s (at + 7) (omega arith), e, z, wires_past (at + 8), wires_past (length s + 2))

  pub net_end_past : length s < at → length s ≡ net_end
  unfolding net_end
  net_end_past h =
      let z : be16 s (length s) ≡ 0 = be16_past s (length s) (omega arith) in
      rw (← links_past h, z) (sym (end_past (length s + 2) (omega arith)))

  pub net_nodes_is : (free p links m n : ℕ) → free ≡ byte s (at + 7) → m ≡ nodes_from s (at + 8) free → p ≡ end_from s (at + 8) free
      → links ≡ be16 s p → n ≡ nodes_from s (p + 2) (2 * links) → m + n ≡ net_nodes
  unfolding net_nodes links_at
  net_nodes_is free p links m n ef em ep el en = rw (em, en, el, ep, ef)

  pub net_end_is : (free p links e : ℕ) → free ≡ byte s (at + 7) → p ≡ end_from s (at + 8) free
      → links ≡ be16 s p → e ≡ end_from s (p + 2) (2 * links) → e ≡ net_end
  unfolding net_end links_at
  net_end_is free p links e ef ep el ee = rw (ee, el, ep, ef)

-- ---- nets, one after another

module _ (s : List ℕ) where
  unfoldable pub nets_nodes : ℕ → ℕ → ℕ
  nets_nodes at zero = 0
  nets_nodes at (suc n) = net_nodes s at + nets_nodes (net_end s at) n

  pub nets_more : (at k total m e t x : ℕ) → min 4097 (total + nets_nodes at k) ≡ x → 0 < k → m ≡ net_nodes s at → e ≡ net_end s at → t ≡ min 4097 (total + m)
      → min 4097 (t + nets_nodes e (k - 1)) ≡ x
  unfolding nets_nodes
  nets_more at zero total m e t x g h em ee et = absurd (not-suc-le-zero h)
  nets_more at (suc k) total m e t x g h em ee et = rw (sub-one, ee) (omega arith)

  pub nets_done : (at k total x : ℕ) → min 4097 (total + nets_nodes at k) ≡ x → k ≤ 0 → total ≤ 4097 → total ≡ x
  unfolding nets_nodes
  nets_done at zero total x g h l = omega arith
  nets_done at (suc k) total x g h l = absurd (not-suc-le-zero h)
