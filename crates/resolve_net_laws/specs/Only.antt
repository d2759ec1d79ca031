-- Tables that speak of some wires only: both passes keep that over links of such wires, and a walk only takes links and trees away.
use Prim.Native.Nat.{ℕ, zero, suc, ◌+◌, ◌-◌, ◌%◌, ◌<◌, ◌≤◌}
use Rattle.std.specs.Prelude.{◌≡◌, List, length, get_or, set}
use Rattle.std.proofs.Common.{◌∙◌, length-set, get_or-set_same, get_or-set_other}
use native.Mathlib.Omega.{arith}
use Rattle.std.proofs.Math.Decide.{ℕ_discrete}
use Rattle.words.specs.Choose.{eq_split, lt_split}
use Rattle.words.specs.Left.{Left}
use Rattle.net_file_laws.specs.Bytes.{Bytes}
use Rattle.fields.specs.Fields.{byte}
use Rattle.ends.specs.Ends.{within, on}
use Rattle.wire_tables.specs.Tables.{far, joined, link, smaller, hung, keep}
use Rattle.wire_tables_laws.specs.Table.{zero_there, zero_stays, Empty}
use Rattle.resolve_pass.specs.declared.Passed.{Passed}
use Rattle.resolve_pass.specs.Pass.{wire_at, tree_end, link_wires, wire_links, add_kept, meet, pass_link, pass}
use Rattle.resolve_walk.specs.declared.Led.{Led}
use Rattle.resolve_walk.specs.declared.Pen.{Pen}
use Rattle.std.specs.Prelude.{Some, None}
use Rattle.resolve_walk.specs.Penned.{Stepped, Penned}
use Rattle.resolve_walk.specs.Walk.{on_step, trees, led_wire, lead, wired, noded, tree}
use Rattle.resolve_net.specs.Renamed.{visit_link, visit_links, renamed_links, renamed}

-- ---- what each step keeps, all keep

module _ (Q : List ℕ → Type 0) where
  step_keeps : (t : Stepped) (go : Pen → Penned Stepped) (stop : Penned Stepped) → ((pen : Pen) → Q (go pen).ws) → Q stop.ws → Q (on_step t go stop).ws
  unfolding on_step
  step_keeps (Some pen) go stop h g = h pen
  step_keeps None go stop h g = g

  pub trees_keep : (one : List ℕ → List ℕ → ℕ → ℕ → Penned Stepped) → ((ws out : List ℕ) (at to : ℕ) → Q ws → Q (one ws out at to).ws)
      → (k : ℕ) (ws out : List ℕ) (at to : ℕ) → Q ws → Q (trees one k ws out at to).ws
  unfolding trees
  trees_keep one h zero ws out at to q = q
  trees_keep one h (suc k) ws out at to q =
      let r = one ws out at to in
      step_keeps r.is _ _ (λ pen. trees_keep one h k r.ws r.out pen.from pen.to (h ws out at to q)) (h ws out at to q)

-- ---- tables that speak of some wires only

far_low : (ws : List ℕ) (a : ℕ) → a < 65536 → far ws a < 65536
unfolding far
far_low ws a h = eq_split _ _ _ _ (λ (x : ℕ). x < 65536) (λ e. h) (λ e. omega arith)

smaller_low : (ws : List ℕ) (a : ℕ) → a < 65536 → smaller ws a < 65536
unfolding smaller
smaller_low ws a h = lt_split _ _ _ _ (λ (x : ℕ). x < 65536) (λ l. far_low ws a h) (λ l. h)

module _ (P : ℕ → Type 0) where
  -- such wires are linked with such ones, and trees hang on such ones
  pub record Only (ws : List ℕ) : Type 0 where
    pub room : 131072 ≤ length ws
    pub links : (a : ℕ) → a < 65536 → (get_or ws a 0 ≡ 0 → ⊥) → P a × P ((get_or ws a 0 - 1) % 65536)
    pub trees : (w : ℕ) → w < 65536 → (hung ws w ≡ 0 → ⊥) → P w

  pub only_empty : (ws : List ℕ) → Empty ws → Only ws
  only_empty ws e = record { room = e.room; links = λ a h n. absurd (n (e.zeros a (omega arith))); trees = λ w h n. absurd (n (e.zeros (65536 + w) (omega arith))) }

  only_zero : (ws : List ℕ) (i : ℕ) → Only ws → Only (set ws i 0)
  only_zero ws i o = record {
    room = rw (length-set ws i 0) o.room;
    links = λ a h n. elim (ℕ_discrete a i) [
      | yes e ↦ absurd (n (rw e (zero_there ws i)))
      | no d ↦ let g = get_or-set_other ws i a 0 0 d in rw g (o.links a h (λ z. n (g ∙ z)))
    ];
    trees = λ w h n. o.trees w h (λ z. n (zero_stays ws (65536 + w) i z));
  }

  module _ (ws : List ℕ) (o : Only ws) where
    only_far : (a : ℕ) → a < 65536 → P a → P (far ws a)
    unfolding far
    only_far a h p = eq_split _ _ _ _ P (λ e. p) (λ d. (o.links a h d).1)

    only_smaller : (a : ℕ) → a < 65536 → P a → P (smaller ws a)
    unfolding smaller
    only_smaller a h p = lt_split _ _ _ _ P (λ l. only_far a h p) (λ l. p)

    only_put : (x y : ℕ) → x < 65536 → y < 65536 → P x → P y → Only (set ws x (y + 1))
    only_put x y hx hy p q = record {
      room = rw (length-set ws x (y + 1)) o.room;
      links = λ a h n. elim (ℕ_discrete a x) [
        | yes e ↦
            let r = o.room in
            let g : get_or (set ws x (y + 1)) a 0 ≡ y + 1 = rw e (get_or-set_same ws x (y + 1) 0 (omega arith)) in
            let k : (get_or (set ws x (y + 1)) a 0 - 1) % 65536 ≡ y = omega arith in
            (rw e p, rw k q)
        | no d ↦ let g = get_or-set_other ws x a (y + 1) 0 d in rw g (o.links a h (λ z. n (g ∙ z)))
      ];
      trees = λ w h n. o.trees w h (λ z. n (get_or-set_other ws x (65536 + w) (y + 1) 0 (λ e. absurd (omega arith)) ∙ z));
    }

    only_hang : (c v : ℕ) → c < 65536 → P c → Only (set ws (65536 + c) v)
    only_hang c v hc p = record {
      room = rw (length-set ws (65536 + c) v) o.room;
      links = λ a h n. let g = get_or-set_other ws (65536 + c) a v 0 (λ e. absurd (omega arith)) in rw g (o.links a h (λ z. n (g ∙ z)));
      trees = λ w h n. elim (ℕ_discrete w c) [
        | yes e ↦ rw e p
        | no d ↦ o.trees w h (λ z. n (get_or-set_other ws (65536 + c) (65536 + w) v 0 (λ e. d (omega arith)) ∙ z))
      ];
    }

    -- a word that is of neither table
    only_past : (i v : ℕ) → 131072 ≤ i → Only (set ws i v)
    only_past i v l = record {
      room = rw (length-set ws i v) o.room;
      links = λ a h n. let g = get_or-set_other ws i a v 0 (λ e. absurd (omega arith)) in rw g (o.links a h (λ z. n (g ∙ z)));
      trees = λ w h n. o.trees w h (λ z. n (get_or-set_other ws i (65536 + w) v 0 (λ e. absurd (omega arith)) ∙ z));
    }

  only_joined : (ws : List ℕ) → Only ws → (x y : ℕ) → x < 65536 → y < 65536 → P x → P y → Only (joined ws x y)
  unfolding joined
  only_joined ws o x y hx hy px py = eq_split _ _ _ _ Only (λ e. o) (λ d. only_put (set ws x (y + 1)) (only_put ws o x y hx hy px py) y x hy hx py px)

  only_link : (ws : List ℕ) → Only ws → (a b : ℕ) → a < 65536 → b < 65536 → P a → P b → Only (link ws a b)
  unfolding link
  only_link ws o a b ha hb pa pb =
      let o₁ = only_zero ws a o in
      only_joined (set (set ws a 0) b 0) (only_zero (set ws a 0) b o₁) (far ws a) (far (set ws a 0) b) (far_low ws a ha) (far_low (set ws a 0) b hb)
      (only_far ws o a ha pa) (only_far (set ws a 0) o₁ b hb pb)

  only_kept : (ws : List ℕ) → Only ws → (i a b : ℕ) → Only (keep ws i a b)
  unfolding keep
  only_kept ws o i a b = only_past _ (only_past ws o _ a (omega arith)) _ b (omega arith)

  -- ---- both passes, over links of such wires

  module _ (s : List ℕ) (bytes : Bytes s) where
    wire_low : (at : ℕ) → wire_at s at < 65536
    unfolding wire_at
    wire_low at = let x = bytes (on s at 1) in let y = bytes (on s at 1 + 1) in omega arith

    unfoldable pub Covers : ℕ → ℕ → Type 0
    Covers at zero = Unit {0}
    Covers at (suc k) = let b = tree_end s at in (byte s at ≡ 0 → P (wire_at s at)) × (byte s b ≡ 0 → P (wire_at s b)) × Covers (tree_end s b) k

    linked_only : (ws : List ℕ) → Only ws → (a b : ℕ) → (byte s a ≡ 0 → P (wire_at s a)) → (byte s b ≡ 0 → P (wire_at s b)) → Only (link_wires ws s a b)
    unfolding link_wires
    linked_only ws o a b pa pb =
        eq_split _ _ _ _ Only (λ x. eq_split _ _ _ _ Only (λ y. only_link ws o (wire_at s a) (wire_at s b) (wire_low a) (wire_low b) (pa x) (pb y)) (λ y. o)) (λ x. o)

    pub links_only : (k : ℕ) (ws : List ℕ) (at : ℕ) → Covers at k → Only ws → Only (wire_links ws s at k).ws
    unfolding wire_links Covers
    links_only zero ws at c o = o
    links_only (suc k) ws at c o = links_only k _ _ c.2 (linked_only ws o at (tree_end s at) c.0 c.1)

    met_only : (ws : List ℕ) → Only ws → (w at : ℕ) (p : Passed) → w < 65536 → P w → Only (meet ws w at p).ws
    unfolding meet add_kept
    met_only ws o w at p h q =
        let c = smaller ws w in
        let o₂ = only_zero (set ws w 0) (65536 + c) (only_zero ws w o) in
        eq_split _ _ _ _ (λ (x : Left Passed). Only x.ws) (λ z. only_hang _ o₂ c _ (smaller_low ws w h) (only_smaller ws o w h q)) (λ z. only_kept _ o₂ _ _ _)

    passed_one : (ws : List ℕ) → Only ws → (a b : ℕ) (p : Passed) → (byte s a ≡ 0 → P (wire_at s a)) → (byte s b ≡ 0 → P (wire_at s b)) → Only (pass_link ws s a b p).ws
    unfolding pass_link add_kept
    passed_one ws o a b p pa pb =
        eq_split _ _ _ _ (λ (x : Left Passed). Only x.ws)
        (λ x. eq_split _ _ _ _ (λ (y : Left Passed). Only y.ws) (λ y. o) (λ y. met_only ws o (wire_at s a) _ p (wire_low a) (pa x)))
        (λ x. eq_split _ _ _ _ (λ (y : Left Passed). Only y.ws) (λ y. met_only ws o (wire_at s b) _ p (wire_low b) (pb y)) (λ y. only_kept ws o _ _ _))

    pub passed_only : (k : ℕ) (ws : List ℕ) (at : ℕ) (p : Passed) → Covers at k → Only ws → Only (pass ws s at k p).ws
    unfolding pass Covers
    passed_only zero ws at p c o = o
    passed_only (suc k) ws at p c o = passed_only k _ _ _ c.2 (passed_one ws o at (tree_end s at) p c.0 c.1)

  -- ---- a walk takes links and trees away

  module _ (s : List ℕ) where
    led_only : (ws : List ℕ) → Only ws → (at : ℕ) → Only (lead s ws at).ws
    unfolding lead led_wire
    led_only ws o at =
        lt_split _ _ _ _ (λ (x : Left Led). Only x.ws) (λ h. eq_split _ _ _ _ (λ (x : Left Led). Only x.ws) (λ e. only_zero _ _ (only_zero ws _ o)) (λ e. o)) (λ h. o)

    tree_only : (d : ℕ) (ws out : List ℕ) (at to : ℕ) → Only ws → Only (tree s d ws out at to).ws
    unfolding tree wired noded
    tree_only zero ws out at to o = eq_split _ _ _ _ (λ (x : Penned Stepped). Only x.ws) (λ e. led_only ws o at) (λ e. led_only ws o at)
    tree_only (suc d) ws out at to o =
        eq_split _ _ _ _ (λ (x : Penned Stepped). Only x.ws) (λ e. led_only ws o at) (λ e. trees_keep Only (tree s d) (tree_only d) _ _ _ _ _ (led_only ws o at))

    link_only : (ws out : List ℕ) (i to : ℕ) → Only ws → Only (visit_link s ws out i to).ws
    unfolding visit_link
    link_only ws out i to o =
        let a = tree_only 64 ws out _ to o in
        step_keeps Only _ _ _ (λ pen. tree_only 64 _ _ _ pen.to a) a

    pub visited_only : (k : ℕ) (ws out : List ℕ) (i to : ℕ) → Only ws → Only (visit_links s k ws out i to).ws
    unfolding visit_links
    visited_only zero ws out i to o = o
    visited_only (suc k) ws out i to o =
        let a = link_only ws out i to o in
        step_keeps Only _ _ _ (λ pen. visited_only k _ _ _ pen.to a) a

    pub frees_only : (n : ℕ) (ws out : List ℕ) (at to : ℕ) → Only ws → Only (trees (tree s 64) n ws out at to).ws
    frees_only n ws out at to o = trees_keep Only (tree s 64) (tree_only 64) n ws out at to o

    pub renamed_only : (ws out : List ℕ) (at links wires kept to : ℕ) → Only ws → Only (renamed s ws out at links wires kept to).ws
    unfolding renamed renamed_links
    renamed_only ws out at links wires kept to o =
        let a = frees_only (byte s (within s (at + 7))) ws _ _ _ o in
        step_keeps Only _ _ _ (λ pen. let b = visited_only kept _ _ _ _ a in step_keeps Only _ _ _ (λ q. b) b) a
