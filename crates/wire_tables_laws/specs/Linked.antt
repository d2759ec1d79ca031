-- The table of links says what the links of the definition say: after `link` (`linked`), and when a wire's link is used up
-- (`smaller-is`, `used-up`).
use Rattle.std.specs.Prelude.{ℕ, suc, ◌+◌, ◌-◌, ◌%◌, ◌<◌, ◌≤◌, min, ◌≡◌, Bool, true, false, List, length, set, eqb}
use Rattle.std.proofs.Math.Path.{refl, sym, ap}
use Rattle.std.proofs.Common.{◌∙◌, eq-eqb, ne_eqb}
use Rattle.std.proofs.Math.Option.{Option, none, some}
use native.Mathlib.Omega.{arith}
use Rattle.std.proofs.Math.Decide.{ℕ_discrete, dec_lt}
use Rattle.std.proofs.Math.ListN.{get_or}
use Rattle.conversions.specs.Links.{get, remove, insert, or_else}
use Rattle.conversions.specs.Links
use Rattle.wire_tables.specs.Tables.{far, joined, link, smaller}
use Rattle.wire_tables.specs.Ways.{far_none, far_some, smaller_far, smaller_own, joined_same, joined_ends}
use Rattle.wire_tables_laws.specs.Table.{Said, Table, table_remove, table_insert}

-- a wire below n stands as the number after it
abbrev pub LinkFor : ℕ → ℕ → ℕ → Type 0
LinkFor n b v = (v ≡ b + 1) × (b < n)

-- the links of n wires
abbrev pub Linked : ℕ → List ℕ → List (ℕ × ℕ) → Type 0
Linked n ws l = Table (LinkFor n) 0 n ws l

-- ---- the definition, by its test

module _ (l : List (ℕ × ℕ)) (a b : ℕ) where
  abbrev end_a : ℕ
  end_a = or_else (get l a) a

  abbrev end_b : ℕ
  end_b = or_else (get (remove l a) b) b

  abbrev apart : List (ℕ × ℕ)
  apart = remove (remove l a) b

  abbrev chosen : Bool → List (ℕ × ℕ)
  chosen t = elim t [ true ↦ apart | false ↦ insert (insert apart end_a end_b) end_b end_a ]

  links_same : end_a ≡ end_b → Links.link l a b ≡ apart
  unfolding Links.link
  links_same h = ap chosen (eq-eqb end_a end_b h)

  links_ends : (end_a ≡ end_b → ⊥) → Links.link l a b ≡ insert (insert apart end_a end_b) end_b end_a
  unfolding Links.link
  links_ends h = ap chosen (ne_eqb end_a end_b h)

-- ---- the far end of a wire

module _ (n : ℕ) (few : n ≤ 65536) (ws : List ℕ) (l : List (ℕ × ℕ)) (t : Linked n ws l) where
  -- what the table says of a wire
  pub linked_says : (a : ℕ) → a < n → Said (LinkFor n) (get l a) (get_or ws a 0)
  linked_says a h = let e : 0 + a ≡ a = omega arith in rw e at (t.says a h)

  module _ (a : ℕ) (below : a < n) where
    abbrev FarIs : Option ℕ → Type 0
    FarIs o = (far ws a ≡ or_else o a) × (far ws a < n)

    far_by : (o : Option ℕ) → Said (LinkFor n) o (get_or ws a 0) → FarIs o
    unfolding or_else
    far_by none z = let e : a ≡ far ws a = far_none ws a (get_or ws a 0) refl z in (sym e, rw (← e) below)
    far_by (some b) f =
        let v = get_or ws a 0 in
        let k : v ≡ b + 1 = f.0 in
        let l = f.1 in
        let e : (v - 1) % 65536 ≡ far ws a = far_some ws a v refl (λ z. absurd (omega arith)) in
        let g : far ws a ≡ b = omega arith in
        (g, omega arith)

    pub far_is : far ws a ≡ or_else (get l a) a
    far_is = (far_by (get l a) (linked_says a below)).0

    pub far_below : far ws a < n
    far_below = (far_by (get l a) (linked_says a below)).1

    -- used up on this side
    pub used_up : Linked n (set ws a 0) (remove l a)
    used_up = table_remove (LinkFor n) 0 n ws l t a a below (omega arith)

    -- the smaller of the two
    pub smaller_below : smaller ws a < n
    unfolding smaller
    smaller_below = elim (dec_lt (far ws a) a) [
      | yes h ↦ rw (← smaller_far ws a (far ws a) refl h) far_below
      | no h ↦ rw (← smaller_own ws a (far ws a) refl (omega arith)) below
    ]

    pub smaller_none : get l a ≡ none → smaller ws a ≡ a
    unfolding or_else
    smaller_none e =
        let f : far ws a ≡ a = rw e at far_is in
        sym (smaller_own ws a (far ws a) refl (omega arith))

    pub smaller_some : (b : ℕ) → get l a ≡ some b → smaller ws a ≡ min a b
    unfolding or_else
    smaller_some b e =
        let f : far ws a ≡ b = rw e at far_is in
        elim (dec_lt (far ws a) a) [
          | yes h ↦ sym (smaller_far ws a (far ws a) refl h) ∙ (omega arith)
          | no h ↦ sym (smaller_own ws a (far ws a) refl (omega arith)) ∙ (omega arith)
        ]

-- ---- two wires are linked

pub linked : (n : ℕ) → n ≤ 65536 → (ws : List ℕ) (l : List (ℕ × ℕ)) (a b : ℕ) → a < n → b < n → Linked n ws l → Linked n (link ws a b) (Links.link l a b)
unfolding link
linked n few ws l a b ha hb t =
    let x = far ws a in
    let y = far (set ws a 0) b in
    let w = set (set ws a 0) b 0 in
    let t₁ = used_up n few ws l t a ha in
    let t₂ = used_up n few (set ws a 0) (remove l a) t₁ b hb in
    let ex = far_is n few ws l t a ha in
    let ey = far_is n few (set ws a 0) (remove l a) t₁ b hb in
    let lx = far_below n few ws l t a ha in
    let ly = far_below n few (set ws a 0) (remove l a) t₁ b hb in
    elim (ℕ_discrete x y) [
      | yes e ↦ rw (← joined_same w x y e, links_same l a b (sym ex ∙ e ∙ ey)) t₂
      | no d ↦
          let t₃ = table_insert (LinkFor n) 0 n w (remove (remove l a) b) t₂ x x lx (omega arith) y (y + 1) (refl, ly) in
          let t₄ = table_insert (LinkFor n) 0 n (set w x (y + 1)) (insert (remove (remove l a) b) x y) t₃ y y ly (omega arith) x (x + 1) (refl, lx) in
          rw (← joined_ends w x y (set w x (y + 1)) (set (set w x (y + 1)) y (x + 1)) d refl refl, links_ends l a b (λ g. d (ex ∙ g ∙ sym ey)), ← ex, ← ey) t₄
    ]
