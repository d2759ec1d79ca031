-- The places of stored trees in order, each tree before its children, by one loop over the bytes: `places`.
-- Nothing is checked here; what comes of it on trees that are read is in `scan_tree_laws`.
use Prim.Native.Nat.{ℕ, zero, suc, ◌+◌, ◌*◌, ◌-◌, ◌<◌, ◌≤◌}
use Rattle.std.specs.Prelude.{◌≡◌, length}
use Rattle.std.proofs.Math.Path.{refl, sym, ap}
use Rattle.std.proofs.Common.{◌∙◌, sub-one, not-suc-le-zero}
use mathlib.Core.List.{List, [], ◌∷◌}
use native.Mathlib.Omega.{arith}
use Rattle.std.proofs.Math.Decide.{dec_lt, ℕ_discrete}
use Rattle.words.specs.Choose.{if_lt, if_eq, lt_yes, lt_no, eq_yes, eq_no}
use Rattle.fields.specs.Fields.{byte}
use Rattle.stored.specs.Stored.{name_end, list_end}
use Rattle.stored_tree.specs.Tree.{on_tag, child_count_at, children}
use Rattle.scan_tree.specs.declared.Scan.{Scan}

module _ (s : List ℕ) where
  -- where there are more trees to come than bytes, none comes
  unfoldable pub fit : ℕ → ℕ → ℕ
  fit at left = if_lt (length s) (at + left) 0 left

  unfoldable pub begin : ℕ → ℕ → Scan
  begin at left = record { at = at; left = fit at left }

  -- the place behind a tree's own bytes: a wire's three, or a node's tag, name and child count
  unfoldable pub behind : ℕ → ℕ
  behind at = on_tag (byte s at) (at + 3) (child_count_at s at + 1)

  -- the trees that come with the tree at a place: a node's children
  unfoldable pub brings : ℕ → ℕ
  brings at = on_tag (byte s at) 0 (children s at)

  unfoldable pub step : ℕ → ℕ → Scan
  step at left =
      if_lt (length s) (at + left) (record { at = at; left = 0 })
      (if_eq left 0 (record { at = at; left = 0 }) (begin (behind at) (left - 1 + brings at)))

  -- in at most so many steps
  unfoldable pub places_in : ℕ → ℕ → ℕ → List ℕ
  places_in zero at left = []
  places_in (suc f) at zero = []
  places_in (suc f) at (suc l) = at ∷ places_in f (behind at) (fit (behind at) (l + brings at))

  -- a step takes a byte at least, so as many steps as bytes are enough (`places-more`)
  unfoldable pub places : ℕ → ℕ → List ℕ
  places at left = places_in (length s) at left

-- ---- each way out of `begin`

module _ (s : List ℕ) (at left : ℕ) where
  pub fit_short : length s < at + left → fit s at left ≡ 0
  unfolding fit
  fit_short h = sym (lt_yes _ _ _ _ h refl)

  pub fit_room : at + left ≤ length s → fit s at left ≡ left
  unfolding fit
  fit_room h = sym (lt_no _ _ _ _ h refl)

  begin_short : length s < at + left → record { at = at; left = 0 } ≡ begin s at left
  unfolding begin
  begin_short h = rw (fit_short h)

  pub begin_past : length s < at → record { at = at; left = 0 } ≡ begin s at left
  begin_past h = begin_short (omega arith)

  pub begin_few : at ≤ length s → length s - at < left → record { at = at; left = 0 } ≡ begin s at left
  begin_few h i = begin_short (omega arith)

  pub begin_room : at ≤ length s → left ≤ length s - at → record { at = at; left = left } ≡ begin s at left
  unfolding begin
  begin_room h i = rw (fit_room (omega arith))

-- ---- a tree's own bytes

module _ {A : Type 0} (a b : A) where
  pub tag_wire : (tag : ℕ) → tag ≡ 0 → on_tag tag a b ≡ a
  unfolding on_tag
  tag_wire tag e = rw e

  pub tag_node : (tag : ℕ) → (tag ≡ 0 → ⊥) → on_tag tag a b ≡ b
  unfolding on_tag
  tag_node zero h = absurd (h refl)
  tag_node (suc n) h = refl

module _ (s : List ℕ) (at : ℕ) where
  pub behind_wire : byte s at ≡ 0 → behind s at ≡ at + 3
  unfolding behind
  behind_wire e = tag_wire _ _ (byte s at) e

  pub brings_wire : byte s at ≡ 0 → brings s at ≡ 0
  unfolding brings
  brings_wire e = tag_wire _ _ (byte s at) e

  pub behind_node : (byte s at ≡ 0 → ⊥) → behind s at ≡ child_count_at s at + 1
  unfolding behind
  behind_node h = tag_node _ _ (byte s at) h

  pub brings_node : (byte s at ≡ 0 → ⊥) → brings s at ≡ children s at
  unfolding brings
  brings_node h = tag_node _ _ (byte s at) h

  -- where a node's child count stands
  count_place : child_count_at s at ≡ at + 12 + 2 * byte s (at + 11)
  unfolding child_count_at name_end list_end
  count_place = let e : at + 1 + 10 ≡ at + 11 = omega arith in rw e (omega arith)

  -- a step moves on
  pub behind_on : at < behind s at
  behind_on = elim (ℕ_discrete (byte s at) 0) [
    | yes h ↦ omega (arith, behind_wire h)
    | no h ↦ omega (arith, behind_node h, count_place)
  ]

-- ---- each way out of `step`

module _ (s : List ℕ) (at left : ℕ) where
  pub step_none : left ≡ 0 → record { at = at; left = 0 } ≡ step s at left
  unfolding step
  step_none h = elim (dec_lt (length s) (at + left)) [
    | yes l ↦ lt_yes _ _ _ _ l refl
    | no l ↦ lt_no _ _ _ _ (omega arith) (eq_yes _ _ _ _ h refl)
  ]

  pub step_past : (left ≡ 0 → ⊥) → length s ≤ at → record { at = at; left = 0 } ≡ step s at left
  unfolding step
  step_past h i = lt_yes _ _ _ _ (omega arith) refl

  pub step_few : at < length s → length s - at < left → record { at = at; left = 0 } ≡ step s at left
  unfolding step
  step_few h i = lt_yes _ _ _ _ (omega arith) refl

  pub step_is : (left ≡ 0 → ⊥) → at + left ≤ length s → step s at left ≡ begin s (behind s at) (left - 1 + brings s at)
  unfolding step
  step_is h i = sym (lt_no _ _ _ _ i (eq_no _ _ _ _ h refl))

  pub step_wire : (tag : ℕ) (r : Scan) → (left ≡ 0 → ⊥) → at < length s → left ≤ length s - at → tag ≡ byte s at → tag ≡ 0
      → r ≡ begin s (at + 3) (left - 1) → r ≡ step s at left
  step_wire tag r h i j et ez er =
      let z : byte s at ≡ 0 = omega arith in
      let l : left - 1 + 0 ≡ left - 1 = omega arith in
      er ∙ sym (step_is h (omega arith) ∙ rw (behind_wire s at z, brings_wire s at z, l))

  pub step_node : (tag b n : ℕ) (r : Scan) → (left ≡ 0 → ⊥) → at < length s → left ≤ length s - at → tag ≡ byte s at → (tag ≡ 0 → ⊥)
      → b ≡ byte s (at + 11) → n ≡ byte s (at + 12 + 2 * b) → r ≡ begin s (at + 12 + 2 * b + 1) (left - 1 + n) → r ≡ step s at left
  unfolding children
  step_node tag b n r h i j et nz eb en er =
      let z : byte s at ≡ 0 → ⊥ = λ e. nz (et ∙ e) in
      er ∙ sym (step_is h (omega arith) ∙ rw (behind_node s at z, brings_node s at z, count_place s at, ← eb, ← en))

-- ---- the places

module _ (s : List ℕ) where
  -- trees to come have their bytes
  pub fit_live : (at left : ℕ) → fit s at left ≤ length s - at
  fit_live at left = elim (dec_lt (length s) (at + left)) [
    | yes l ↦ omega (arith, fit_short s at left l)
    | no l ↦ rw (fit_room s at left (omega arith)) (omega arith)
  ]

  enough : (f g at left : ℕ) → length s ≤ at + f → length s ≤ at + g → left ≤ length s - at → places_in s f at left ≡ places_in s g at left
  unfolding places_in
  enough zero zero at left hf hg v = refl
  enough zero (suc g) at zero hf hg v = refl
  enough zero (suc g) at (suc l) hf hg v = absurd (omega arith)
  enough (suc f) zero at zero hf hg v = refl
  enough (suc f) zero at (suc l) hf hg v = absurd (omega arith)
  enough (suc f) (suc g) at zero hf hg v = refl
  enough (suc f) (suc g) at (suc l) hf hg v =
      let o = behind_on s at in
      ap {B = List ℕ} (λ ps. at ∷ ps) (enough f g (behind s at) (fit s (behind s at) (l + brings s at)) (omega arith) (omega arith) (fit_live (behind s at) (l + brings s at)))

  none_in : (f at : ℕ) → places_in s f at 0 ≡ []
  unfolding places_in
  none_in zero at = refl
  none_in (suc f) at = refl

  pub places_none : (at : ℕ) → places s at 0 ≡ []
  unfolding places
  places_none at = none_in (length s) at

  pub places_more : (at l : ℕ) → at + suc l ≤ length s → places s at (suc l) ≡ at ∷ places s (behind s at) (fit s (behind s at) (l + brings s at))
  unfolding places places_in
  places_more at l h = enough (length s) (suc (length s)) at (suc l) (omega arith) (omega arith) (omega arith)

  -- one step of the scan is one place
  pub places_step : (at left : ℕ) (c : Scan) → 0 < left → left ≤ length s - at → c ≡ step s at left → places s at left ≡ at ∷ places s c.at c.left
  unfolding begin
  places_step at zero c h v e = absurd (not-suc-le-zero h)
  places_step at (suc l) c h v e =
      places_more at l (omega arith) ∙ sym (rw (e, step_is s at (suc l) (omega arith) (omega arith), sub-one))

  pub step_live : (at left : ℕ) (c : Scan) → 0 < left → left ≤ length s - at → c ≡ step s at left → c.left ≤ length s - c.at
  unfolding begin
  step_live at left c h v e = rw (e, step_is s at left (omega arith) (omega arith)) (fit_live (behind s at) (left - 1 + brings s at))

  pub step_on : (at left : ℕ) (c : Scan) → 0 < left → left ≤ length s - at → c ≡ step s at left → at < c.at
  unfolding begin
  step_on at left c h v e = rw (e, step_is s at left (omega arith) (omega arith)) (behind_on s at)

  pub step_to : (at left : ℕ) (c : Scan) → 0 < left → left ≤ length s - at → c ≡ step s at left → c.at ≡ behind s at
  unfolding begin
  step_to at left c h v e = rw (e, step_is s at left (omega arith) (omega arith))

  pub fit_most : (at left : ℕ) → fit s at left ≤ left
  fit_most at left = elim (dec_lt (length s) (at + left)) [
    | yes l ↦ omega (arith, fit_short s at left l)
    | no l ↦ omega (arith, fit_room s at left (omega arith))
  ]
