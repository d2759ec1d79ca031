-- The ways out of the code; one turn of a loop over the wires that are looked at, and its end.
use Prim.Native.Nat.{ℕ, zero, suc, ◌+◌, ◌-◌, ◌/◌, ◌%◌, ◌<◌, ◌≤◌}
use Rattle.std.specs.Prelude.{◌≡◌, get_or, set}
use Rattle.std.proofs.Math.Path.{refl, sym, ap}
use Rattle.std.proofs.Common.{◌∙◌}
use mathlib.Core.List.{List, [], ◌∷◌}
use native.Mathlib.Omega.{arith}
use Rattle.std.proofs.Math.Decide.{dec_lt}
use Rattle.words.specs.Choose.{eq_yes, eq_no, eq_split, lt_yes, lt_no}
use Rattle.wire_blocks.specs.Blocks.{row_mark, block_mark, marked, row_stride, stride, looks, looked}

module _ (base : ℕ) (ws : List ℕ) (w : ℕ) where
  pub marked_both : (u v : List ℕ) → u ≡ set ws (base + w / 1024) 1 → v ≡ set u (base + 64 + w / 32) 1 → v ≡ marked base ws w
  unfolding marked
  marked_both u v eu ev = ev ∙ rw eu

  pub row_one : (m : ℕ) → w % 1024 ≡ 0 → m ≡ get_or ws (base + w / 1024) 0 → m ≡ 0 → 1024 ≡ row_stride base ws w
  unfolding row_stride row_mark
  row_one m h e z = eq_yes _ _ _ _ h (eq_yes _ _ _ _ (sym e ∙ z) refl)

  pub row_marked : (m : ℕ) → w % 1024 ≡ 0 → m ≡ get_or ws (base + w / 1024) 0 → (m ≡ 0 → ⊥) → 32 ≡ row_stride base ws w
  unfolding row_stride row_mark
  row_marked m h e z = eq_yes _ _ _ _ h (eq_no _ _ _ _ (λ y. z (e ∙ y)) refl)

  pub row_inside : (w % 1024 ≡ 0 → ⊥) → 32 ≡ row_stride base ws w
  unfolding row_stride
  row_inside h = eq_no _ _ _ _ h refl

  pub block_none : (m r : ℕ) → w % 32 ≡ 0 → m ≡ get_or ws (base + 64 + w / 32) 0 → m ≡ 0 → r ≡ row_stride base ws w → r ≡ stride base ws w
  unfolding stride block_mark
  block_none m r h e z er = eq_yes _ _ _ _ h (eq_yes _ _ _ _ (sym e ∙ z) er)

  pub block_marked : (m : ℕ) → w % 32 ≡ 0 → m ≡ get_or ws (base + 64 + w / 32) 0 → (m ≡ 0 → ⊥) → 1 ≡ stride base ws w
  unfolding stride block_mark
  block_marked m h e z = eq_yes _ _ _ _ h (eq_no _ _ _ _ (λ y. z (e ∙ y)) refl)

  pub block_inside : (w % 32 ≡ 0 → ⊥) → 1 ≡ stride base ws w
  unfolding stride
  block_inside h = eq_no _ _ _ _ h refl

  -- it is far enough
  row_forward : 0 < row_stride base ws w
  unfolding row_stride
  row_forward = eq_split _ _ _ _ (λ (x : ℕ). 0 < x) (λ h. eq_split _ _ _ _ (λ (x : ℕ). 0 < x) (λ k. omega arith) (λ k. omega arith)) (λ h. omega arith)

  pub forward : 0 < stride base ws w
  unfolding stride
  forward = eq_split _ _ _ _ (λ (x : ℕ). 0 < x) (λ h. eq_split _ _ _ _ (λ (x : ℕ). 0 < x) (λ k. row_forward) (λ k. omega arith)) (λ h. omega arith)

module _ (base : ℕ) (ws : List ℕ) (n : ℕ) where
  pub looks_end : (k w : ℕ) → n ≤ w → looks base ws n k w ≡ []
  unfolding looks
  looks_end zero w h = refl
  looks_end (suc k) w h = sym (lt_no _ _ _ _ h refl)

  looks_on : (k w : ℕ) → w < n → looks base ws n (suc k) w ≡ w ∷ looks base ws n k (w + stride base ws w)
  unfolding looks
  looks_on k w h = sym (lt_yes _ _ _ _ h refl)

  -- more turns than are needed change nothing
  looks_same : (k m w : ℕ) → n ≤ w + k → n ≤ w + m → looks base ws n k w ≡ looks base ws n m w
  looks_same zero m w h i = looks_end zero w (omega arith) ∙ sym (looks_end m w (omega arith))
  looks_same (suc k) zero w h i = looks_end (suc k) w (omega arith) ∙ sym (looks_end zero w (omega arith))
  looks_same (suc k) (suc m) w h i = elim (dec_lt w n) [
    | yes l ↦
        let f = forward base ws w in
        looks_on k w l ∙ ap (λ (t : List ℕ). w ∷ t) (looks_same k m (w + stride base ws w) (omega arith) (omega arith)) ∙ sym (looks_on m w l)
    | no l ↦ looks_end (suc k) w (omega arith) ∙ sym (looks_end (suc m) w (omega arith))
  ]

  pub looked_more : (w d : ℕ) → w < n → d ≡ stride base ws w → looked base ws n w ≡ w ∷ looked base ws n (w + d)
  unfolding looked
  looked_more w d h e =
      let f = forward base ws w in
      let j : n - w ≡ suc (n - w - 1) = omega arith in
      rw (j, e) (looks_on (n - w - 1) w h ∙ ap (λ (t : List ℕ). w ∷ t) (looks_same (n - w - 1) (n - (w + stride base ws w)) (w + stride base ws w) (omega arith) (omega arith)))

  pub looked_done : (w : ℕ) → n ≤ w → looked base ws n w ≡ []
  unfolding looked
  looked_done w h = looks_end (n - w) w h
