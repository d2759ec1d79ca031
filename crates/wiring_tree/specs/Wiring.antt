-- How check 7 goes over a net of trees. What it means is in `wiring_tree_laws`.
use Rattle.std.specs.Prelude.{ℕ, ◌+◌, ◌*◌, ◌<◌, ◌≤◌, ◌≡◌, Bool, true, false, ◌&&◌, List, [], ◌∷◌, ◌++◌, length}
use Rattle.std.proofs.Math.Bool.{and-true}
use Rattle.std.proofs.Math.Path.{refl}
use Rattle.std.proofs.Common.{sym, ap, ◌∙◌}
use Rattle.net_file.specs.Lists.{all, concat_map}
use Rattle.fields.specs.Fields.{byte, be16}
use Rattle.tally.specs.Tally.{tally, bump, tally_append, tally_length}
use Rattle.wiring.specs.Wiring.{twice}
use Rattle.list_laws.specs.Lists.{all_append}
use Rattle.scan_tree.specs.declared.Scan.{Scan}
use Rattle.scan_tree.specs.Scan.{begin, step, places, tag_wire, tag_node}
use Rattle.scan_tree.specs.Count.{scan, wire_at, wires_from, end_from, links_at, net_wires, links_is, net_wires_past, Runs, runs_begin, runs_next, runs_more, runs_none}

-- a net's wires, all tallied
unfoldable pub net_tallied : List ℕ → ℕ → List ℕ → ℕ → List ℕ
net_tallied counts base s at = tally counts base (net_wires s at)

-- whether each of them was seen twice
unfoldable pub net_wired : List ℕ → ℕ → List ℕ → ℕ → Bool
net_wired counts base s at = all (twice counts base) (net_wires s at)

-- ---- the wire at a tree's place

module _ (s : List ℕ) (at b : ℕ) (eb : b ≡ byte s at) where
  wire_is : b ≡ 0 → wire_at s at ≡ be16 s (at + 1) ∷ []
  unfolding wire_at
  wire_is z = tag_wire _ _ (byte s at) (sym eb ∙ z)

  wire_none : (b ≡ 0 → ⊥) → wire_at s at ≡ []
  unfolding wire_at
  wire_none z = tag_node _ _ (byte s at) (λ h. z (eb ∙ h))

  pub tally_wire : (counts c : List ℕ) (base w : ℕ) → b ≡ 0 → w ≡ be16 s (at + 1) → c ≡ bump counts base w → c ≡ tally counts base (wire_at s at)
  unfolding tally
  tally_wire counts c base w z ew ec = rw (wire_is z, ec, ew)

  pub tally_node : (counts : List ℕ) (base : ℕ) → (b ≡ 0 → ⊥) → counts ≡ tally counts base (wire_at s at)
  unfolding tally
  tally_node counts base z = rw (wire_none z)

-- ---- a tally that is under way

-- with what is still to come it is the whole
pub record Tallies (s : List ℕ) (from k base : ℕ) (start counts : List ℕ) (c : Scan) : Type 0 where
  pub runs : Runs s from k c
  pub counted : tally counts base (concat_map (wire_at s) (places s c.at c.left)) ≡ tally start base (wires_from s from k)
  pub long : length counts ≡ length start

module _ (s : List ℕ) (from k base : ℕ) where
  pub tallies_begin : (start : List ℕ) (c : Scan) → c ≡ begin s from k → Tallies s from k base start start c
  unfolding begin wires_from scan
  tallies_begin start c e = record { runs = runs_begin s from k c e; counted = rw e; long = refl }

  module _ (start counts : List ℕ) (c : Scan) (h : Tallies s from k base start counts c) where
    pub tallies_more : (after : List ℕ) (d : Scan) → 0 < c.left → after ≡ tally counts base (wire_at s c.at) → d ≡ step s c.at c.left
        → Tallies s from k base start after d
    tallies_more after d l ea ed =
        let rest = concat_map (wire_at s) (places s d.at d.left) in
        let f : tally counts base (wire_at s c.at ++ rest) ≡ tally start base (wires_from s from k) = rw (runs_next s from k c d h.runs l ed) at h.counted in
        record {
          runs = runs_more s from k c d h.runs l ed;
          counted = rw ea (tally_append counts base (wire_at s c.at) rest ∙ f);
          long = ap length ea ∙ tally_length counts base (wire_at s c.at) ∙ h.long;
        }

    pub tallies_done : c.left ≤ 0 → counts ≡ tally start base (wires_from s from k)
    unfolding tally
    tallies_done l = rw (runs_none s from k c h.runs l) at h.counted

-- ---- a net, tallied

module _ (s : List ℕ) (at base : ℕ) (counts : List ℕ) where
  pub net_past : length s < at → counts ≡ net_tallied counts base s at
  unfolding net_tallied tally
  net_past h = rw (net_wires_past s at h)

  pub net_tallied_lem : (c d : List ℕ) (free p links : ℕ) → free ≡ byte s (at + 7) → c ≡ tally counts base (wires_from s (at + 8) free) → p ≡ end_from s (at + 8) free
      → links ≡ be16 s p → d ≡ tally c base (wires_from s (p + 2) (2 * links)) → d ≡ net_tallied counts base s at
  unfolding net_tallied net_wires
  net_tallied_lem c d free p links ef ec ep el ed =
      let q : p ≡ links_at s at = links_is s at free p ef ep in
      ed ∙ rw (ec, el, q, ef) (tally_append counts base (wires_from s (at + 8) (byte s (at + 7))) (wires_from s (links_at s at + 2) (2 * be16 s (links_at s at))))

-- ---- seen twice

module _ (s : List ℕ) (at b : ℕ) (eb : b ≡ byte s at) (counts : List ℕ) (base : ℕ) where
  pub twice_node : (b ≡ 0 → ⊥) → true ≡ all (twice counts base) (wire_at s at)
  twice_node z = rw (wire_none s at b eb z)

  pub twice_wire : (w : ℕ) (t : Bool) → b ≡ 0 → w ≡ be16 s (at + 1) → t ≡ twice counts base w → t ≡ all (twice counts base) (wire_at s at)
  twice_wire w t z ew et = rw (wire_is s at b eb z) (rw ew at et ∙ sym (and-true (twice counts base (be16 s (at + 1)))))

-- a check that is under way: what is still to come decides
pub record Decides (s : List ℕ) (from k : ℕ) (counts : List ℕ) (base : ℕ) (c : Scan) : Type 0 where
  pub runs : Runs s from k c
  pub same : all (twice counts base) (concat_map (wire_at s) (places s c.at c.left)) ≡ all (twice counts base) (wires_from s from k)

module _ (s : List ℕ) (from k : ℕ) (counts : List ℕ) (base : ℕ) (c : Scan) where
  pub decides_begin : c ≡ begin s from k → Decides s from k counts base c
  unfolding begin wires_from scan
  decides_begin e = record { runs = runs_begin s from k c e; same = rw e }

  module _ (h : Decides s from k counts base c) where
    module _ (t : Bool) (l : 0 < c.left) (et : t ≡ all (twice counts base) (wire_at s c.at)) where
      -- the tree at hand, then the rest
      apart : (d : Scan) → d ≡ step s c.at c.left
          → (t && all (twice counts base) (concat_map (wire_at s) (places s d.at d.left))) ≡ all (twice counts base) (wires_from s from k)
      apart d ed =
          let rest = concat_map (wire_at s) (places s d.at d.left) in
          let f : all (twice counts base) (wire_at s c.at ++ rest) ≡ all (twice counts base) (wires_from s from k) = rw (runs_next s from k c d h.runs l ed) at h.same in
          ap (λ u. u && all (twice counts base) rest) et ∙ sym (all_append (twice counts base) (wire_at s c.at) rest) ∙ f

      pub decides_more : (d : Scan) → t ≡ true → d ≡ step s c.at c.left → Decides s from k counts base d
      decides_more d y ed = record { runs = runs_more s from k c d h.runs l ed; same = rw y at (apart d ed) }

      pub decides_no : t ≡ false → false ≡ all (twice counts base) (wires_from s from k)
      decides_no n = rw n at (apart (step s c.at c.left) refl)

    pub decides_done : c.left ≤ 0 → true ≡ all (twice counts base) (wires_from s from k)
    decides_done l = rw (runs_none s from k c h.runs l) at h.same

module _ (s : List ℕ) (at base : ℕ) (counts : List ℕ) where
  pub wired_past : length s < at → true ≡ net_wired counts base s at
  unfolding net_wired
  wired_past h = rw (net_wires_past s at h)

  module _ (free : ℕ) (t : Bool) (ef : free ≡ byte s (at + 7)) (et : t ≡ all (twice counts base) (wires_from s (at + 8) free)) where
    halves : net_wired counts base s at ≡ (t && all (twice counts base) (wires_from s (links_at s at + 2) (2 * be16 s (links_at s at))))
    unfolding net_wired net_wires
    halves = rw (et, ef) (all_append (twice counts base) (wires_from s (at + 8) (byte s (at + 7))) (wires_from s (links_at s at + 2) (2 * be16 s (links_at s at))))

    pub wired_free : t ≡ false → false ≡ net_wired counts base s at
    wired_free n = sym (halves ∙ rw n)

    pub wired_links : (p links : ℕ) (r : Bool) → t ≡ true → p ≡ links_at s at → links ≡ be16 s p → r ≡ all (twice counts base) (wires_from s (p + 2) (2 * links)) → r ≡ net_wired counts base s at
    wired_links p links r y ep el er = er ∙ rw (el, ep) (sym (halves ∙ rw y))
