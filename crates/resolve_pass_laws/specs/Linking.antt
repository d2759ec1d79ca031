-- The links of two wires: what the first pass leaves in the tables is `wireLinks` of the definition (`links-are`).
use Rattle.std.specs.Prelude.{ℕ, zero, suc, ◌+◌, ◌<◌, ◌≤◌, ◌≡◌, get_or}
use Rattle.std.proofs.Math.Path.{refl, sym, ap}
use Rattle.std.proofs.Common.{◌∙◌, length-set, get_or-set_other}
use mathlib.Core.List.{List, [], ◌∷◌}
use native.Mathlib.Omega.{arith}
use Rattle.std.proofs.Math.Decide.{ℕ_discrete}
use Rattle.std.proofs.Math.ListN.{length, set}
use Rattle.words.specs.Choose.{eq_yes, eq_no}
use Rattle.words.specs.Left.{Left}
use Rattle.net_file.specs.Values.{Name, Tree, wire, node, Trees}
use Rattle.net_file.specs.Write.{write_tree}
use Rattle.conversions.specs.Links
use Rattle.conversions.specs.Links.{remove}
use Rattle.conversions.specs.Resolve.{Hung, wire_links}
use Rattle.fields.specs.Fields.{byte, be16}
use Rattle.ends.specs.Ends.{within}
use Rattle.wire_tables.specs.Tables.{far, joined, link}
use Rattle.wire_tables.specs.Ways.{joined_same, joined_ends}
use Rattle.wire_tables_laws.specs.Table.{Table}
use Rattle.wire_tables_laws.specs.Linked.{Linked, linked, used_up, far_below}
use Rattle.resolve_pass.specs.Pass.{wire_at, tree_end, link_wires}
use Rattle.resolve_pass.specs.Pass as code
use Rattle.resolve_laws.specs.Pass.{link_one, wire_links_more, wire_links_none}
use Rattle.spelt_trees.specs.Lies.{Lies}
use Rattle.resolve_walk_laws.specs.Meant.{Frame, frame_none, frame_then, HungAt, Meant}
use Rattle.resolve_pass_laws.specs.Room.{LinksLie, end_is}

-- words from b on are kept
pub record Above (b : ℕ) (ws vs : List ℕ) : Type 0 where
  pub long : length vs ≡ length ws
  pub same : (i : ℕ) → b ≤ i → get_or vs i 0 ≡ get_or ws i 0

pub above_none : (b : ℕ) (ws : List ℕ) → Above b ws ws
above_none b ws = record { long = refl; same = λ i h. refl }

pub above_then : {b : ℕ} {ws vs us : List ℕ} → Above b ws vs → Above b vs us → Above b ws us
above_then f g = record { long = g.long ∙ f.long; same = λ i h. g.same i h ∙ f.same i h }

pub above_set : (b : ℕ) (ws : List ℕ) (i v : ℕ) → i < b → Above b ws (set ws i v)
above_set b ws i v l = record { long = length-set ws i v; same = λ j h. get_or-set_other ws i j v 0 (λ e. absurd (omega arith)) }

pub above_frame : {ws vs : List ℕ} → Above 65536 ws vs → Frame ws vs
above_frame a = record { long = a.long; same = λ i h. a.same i (omega arith) }

-- a table whose words are kept
pub table_above : {A : Type 0} (For : A → ℕ → Type 0) (base n : ℕ) (ws vs : List ℕ) (es : List (ℕ × A)) → Above base ws vs → Table For base n ws es → Table For base n vs es
table_above For base n ws vs es a t = record {
  room = let r = t.room in rw a.long r;
  says = λ w h. rw (a.same (base + w) (omega arith)) (t.says w h);
}

module _ (s : List ℕ) (n : ℕ) (few : n ≤ 65536) where
  link_above : (ws : List ℕ) (l : List (ℕ × ℕ)) (a b : ℕ) → a < n → b < n → Linked n ws l → Above 65536 ws (link ws a b)
  unfolding link
  link_above ws l a b ha hb t =
      let x = far ws a in
      let y = far (set ws a 0) b in
      let w = set (set ws a 0) b 0 in
      let t₁ = used_up n few ws l t a ha in
      let lx = far_below n few ws l t a ha in
      let ly = far_below n few (set ws a 0) (remove l a) t₁ b hb in
      let k = above_then (above_set 65536 ws a 0 (omega arith)) (above_set 65536 (set ws a 0) b 0 (omega arith)) in
      elim (ℕ_discrete x y) [
        | yes e ↦ rw (← joined_same w x y e) k
        | no d ↦
            rw (← joined_ends w x y (set w x (y + 1)) (set (set w x (y + 1)) y (x + 1)) d refl refl)
            (above_then k (above_then (above_set 65536 w x (y + 1) (omega arith)) (above_set 65536 (set w x (y + 1)) y (x + 1) (omega arith))))
      ]

  -- the tables with other links
  abbrev linked_as : List (ℕ × ℕ) → Hung → Hung
  linked_as l h = record { links = l; trees = h.trees }

  pub record Linking (ws vs : List ℕ) (h : Hung) : Type 0 where
    pub meant : Meant s n vs h
    pub above : Above 65536 ws vs

  link_meant : (ws : List ℕ) (h : Hung) (a b : ℕ) → a < n → b < n → Meant s n ws h → Linking ws (link ws a b) (linked_as (Links.link h.links a b) h)
  link_meant ws h a b ha hb m =
      let k = link_above ws h.links a b ha hb m.links in
      record { meant = record { links = linked n few ws h.links a b ha hb m.links; trees = table_above (HungAt s n) 65536 n ws (link ws a b) h.trees k m.trees }; above = k }

  -- the wire at a place
  pub wire_is : (w at : ℕ) → Lies s n (wire w) at → (byte s at ≡ 0) × (wire_at s at ≡ w) × (w < n)
  unfolding Lies wire_at
  wire_is w at k =
      let r = k.room in
      let i : within s (at + 1) ≡ at + 1 = omega arith in
      (k.tag, ap (be16 s) i ∙ sym k.is, k.below)

  pub node_tag : (m : Name) (ts : Trees) (at : ℕ) → Lies s n (node m ts) at → byte s at ≡ 0 → ⊥
  unfolding Lies
  node_tag m ts at k = k.0.tag

  link_one_lem : (ws : List ℕ) (h : Hung) (t u : Tree) (a b : ℕ) → Lies s n t a → Lies s n u b → Meant s n ws h
      → Linking ws (link_wires ws s a b) (linked_as (link_one t u h.links) h)
  unfolding link_one link_wires
  link_one_lem ws h (wire v) (wire w) a b k l m =
      let x = wire_is v a k in
      let y = wire_is w b l in
      rw (← eq_yes _ _ _ _ x.0 (eq_yes _ _ _ _ y.0 refl), x.1, y.1) (link_meant ws h v w x.2 y.2 m)
  link_one_lem ws h (wire v) (node q ts) a b k l m =
      let x = wire_is v a k in
      rw (← eq_yes _ _ _ _ x.0 (eq_no _ _ _ _ (node_tag q ts b l) refl)) (record { meant = m; above = above_none 65536 ws })
  link_one_lem ws h (node q ts) u a b k l m = rw (← eq_no _ _ _ _ (node_tag q ts a k) refl) (record { meant = m; above = above_none 65536 ws })

  -- how long links are
  abbrev pub links_long : List (Tree × Tree) → ℕ
  links_long [] = 0
  links_long (p ∷ ps) = length (write_tree p.0) + length (write_tree p.1) + links_long ps

  links_step : (t u : Tree) (ws : List ℕ) (at k : ℕ) → Lies s n t at → Lies s n u (at + length (write_tree t)) → code.wire_links ws s at (suc k)
      ≡ code.wire_links (link_wires ws s at (at + length (write_tree t))) s (at + length (write_tree t) + length (write_tree u)) k
  unfolding code.wire_links
  links_step t u ws at k lt lu = rw (end_is s n t at lt, end_is s n u (at + length (write_tree t)) lu)

  links_end : (ws : List ℕ) (at : ℕ) → code.wire_links ws s at 0 ≡ record { is = at; ws = ws }
  unfolding code.wire_links
  links_end ws at = refl

  pub links_are : (ps : List (Tree × Tree)) (ws : List ℕ) (h : Hung) (at : ℕ) → LinksLie s n ps at → Meant s n ws h
      → ((code.wire_links ws s at (length ps)).is ≡ at + links_long ps) × Linking ws (code.wire_links ws s at (length ps)).ws (linked_as (wire_links ps h.links) h)
  unfolding LinksLie
  links_are [] ws h at k m = rw (links_end ws at, wire_links_none h.links) (omega arith, record { meant = m; above = above_none 65536 ws })
  links_are (p ∷ ps) ws h at k m =
      let b = at + length (write_tree p.0) in
      let e = b + length (write_tree p.1) in
      let g = link_one_lem ws h p.0 p.1 at b k.0 k.1 m in
      let r = links_are ps (link_wires ws s at b) (linked_as (link_one p.0 p.1 h.links) h) e k.2 g.meant in
      let more : wire_links (p ∷ ps) h.links ≡ wire_links ps (link_one p.0 p.1 h.links) = wire_links_more p.0 p.1 ps h.links in
      rw (links_step p.0 p.1 ws at (length ps) k.0 k.1, more)
      (r.0 ∙ omega arith, record { meant = r.1.meant; above = above_then g.above r.1.above })
