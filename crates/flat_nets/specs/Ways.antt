-- The ways out, and the turns and ends of the loops over nets.
use Prim.Native.Nat.{ℕ, zero, suc, ◌+◌, ◌-◌, ◌/◌, ◌<◌, ◌≤◌}
use borrow.Rule.Slice.PartMut.{put_mid}
use Rattle.std.specs.Prelude.{◌≡◌, length, get_or, set, eqb}
use Rattle.std.proofs.Math.Path.{refl, sym, ap}
use Rattle.std.proofs.Common.{◌∙◌, arith, sub-one, not-suc-le-zero, min, take, drop, replicate, length-drop, get_or-set_other, eq-eqb, ne_eqb}
use Rattle.std.proofs.lemmas.List.{take_min, drop_min}
use mathlib.Core.List.{List, [], ◌∷◌, ◌++◌}
use Rattle.net_file.specs.Lists.{bit}
use Rattle.net_file.specs.Write.{be, write_head}
use Rattle.fields.specs.Fields.{byte, be16}
use Rattle.text_writers.specs.Wrote.{Wrote, then}
use Rattle.words.specs.Choose.{lt_yes, lt_no, lt_split}
use Rattle.wire_blocks.specs.Blocks.{row_mark, block_mark, row_stride, stride, looks, looked}
use Rattle.wire_blocks.specs.Ways.{looked_more, looked_done}
use Rattle.wire_links.specs.Table.{on, extent, looks_below}
use Rattle.flat_nets.specs.declared.Measured.{Measured}
use Rattle.flat_nets.specs.declared.Total.{Total}
use Rattle.flat_nets.specs.declared.Spot.{Spot}
use Rattle.flat_nets.specs.Flat.{zero_from, empty_over, measured, passed, size, summed, summed_all, passed_all, head_of, head_written, net_spot, net_words, net_out, nets_spot, nets_words, nets_out}

-- ---- the table without links again

-- past the end nothing is changed
zero_nothing : (n i : ℕ) → zero_from i n [] ≡ []
unfolding zero_from
zero_nothing zero i = refl
zero_nothing (suc n) i = zero_nothing n (suc i)

zero_later : (n i x : ℕ) (xs : List ℕ) → zero_from (suc i) n (x ∷ xs) ≡ x ∷ zero_from i n xs
unfolding zero_from
zero_later zero i x xs = refl
zero_later (suc n) i x xs = zero_later n (suc i) x (set xs i 0)

zero_part : (i n : ℕ) (ws : List ℕ) → take i ws ++ (replicate (length (take n (drop i ws))) 0 ++ drop n (drop i ws)) ≡ zero_from i n ws
unfolding zero_from
zero_part zero zero ws = refl
zero_part zero (suc n) [] = sym (zero_nothing n 1)
zero_part zero (suc n) (x ∷ xs) = ap (λ (t : List ℕ). 0 ∷ t) (zero_part zero n xs) ∙ sym (zero_later n 0 0 xs)
zero_part (suc i) zero [] = refl
zero_part (suc i) (suc n) [] = sym (zero_nothing n (suc (suc i)))
zero_part (suc i) n (x ∷ xs) = ap (λ (t : List ℕ). x ∷ t) (zero_part i n xs) ∙ sym (zero_later n i x xs)

-- zeros filled into a part, as far as there are words
pub zero_filled : (from n start end : ℕ) (ws ys : List ℕ) → start ≡ min from (length ws) → end ≡ min (from + n) (length ws)
    → ys ≡ replicate (length (take (end - start) (drop start ws))) 0 → put_mid start (end - start) ws ys ≡ zero_from from n ws
zero_filled from n start end ws ys es ee ey =
    let k : end - start ≡ min n (length (drop from ws)) = omega (arith, length-drop from ws) in
    rw (ey, k, es, take_min, drop_min, take_min, drop_min) (zero_part from n ws)

-- a link is no mark: without it the same wires are looked at
module _ (ws : List ℕ) (v : ℕ) (h : v < 65537) where
  mark_same : (i : ℕ) → 65537 ≤ i → get_or (set ws v 0) i 0 ≡ get_or ws i 0
  mark_same i k = get_or-set_other ws v i 0 0 (λ e. absurd (omega arith))

  stride_same : (w : ℕ) → stride 65537 (set ws v 0) w ≡ stride 65537 ws w
  unfolding stride row_stride row_mark block_mark
  stride_same w = rw (mark_same (65537 + w / 1024) (omega arith), mark_same (65601 + w / 32) (omega arith))

  looks_same : (n k w : ℕ) → looks 65537 (set ws v 0) n k w ≡ looks 65537 ws n k w
  unfolding looks
  looks_same n zero w = refl
  looks_same n (suc k) w = rw (stride_same w, looks_same n k (w + stride 65537 ws w))

  looked_same : (n w : ℕ) → looked 65537 (set ws v 0) n w ≡ looked 65537 ws n w
  unfolding looked
  looked_same n w = looks_same n (n - w) w

module _ (n : ℕ) (low : n ≤ 65536) where
  pub empty_more : (w d : ℕ) (ws v x : List ℕ) → empty_over (looked 65537 ws n w) ws ≡ x → w < n → v ≡ set ws w 0 → d ≡ stride 65537 v w
      → empty_over (looked 65537 v n (w + d)) v ≡ x
  unfolding empty_over
  empty_more w d ws v x e h ev ed =
      let f : d ≡ stride 65537 ws w = ed ∙ ap (λ (u : List ℕ). stride 65537 u w) ev ∙ stride_same ws w (omega arith) w in
      ap (λ (u : List ℕ). empty_over (looked 65537 u n (w + d)) u) ev
      ∙ ap (λ (l : List ℕ). empty_over l (set ws w 0)) (looked_same ws w (omega arith) n (w + d))
      ∙ sym (ap (λ (l : List ℕ). empty_over l ws) (looked_more 65537 ws n w d h f)) ∙ e

module _ (ws : List ℕ) (e : ℕ) (ee : e ≡ extent ws 65536) where
  pub extent_low : e ≤ 65536
  unfolding extent
  extent_low = lt_split _ _ _ _ (λ (x : ℕ). e ≡ x → e ≤ 65536) (λ l i. omega arith) (λ l i. omega arith) ee

  pub empty_done : (w : ℕ) (v : List ℕ) → empty_over (looked 65537 v e w) v ≡ empty_over (looked 65537 ws e 0) ws → e ≤ w → v ≡ empty_over (looks_below ws 65536) ws
  unfolding empty_over looks_below
  empty_done w v f h =
      sym (ap (λ (l : List ℕ). empty_over l v) (looked_done 65537 v e w h)) ∙ f ∙ ap (λ (n : ℕ). empty_over (looked 65537 ws n 0) ws) ee

-- ---- nets

module _ (s : List ℕ) where
  pub mark_one : (at b : ℕ) → b ≡ byte s (at + 2) → b ≡ 1 → 1 ≡ bit (eqb (byte s (at + 2)) 1)
  mark_one at b e h = rw (eq-eqb (byte s (at + 2)) 1 (rw (← e) h))

  pub mark_none : (at b : ℕ) → b ≡ byte s (at + 2) → (b ≡ 1 → ⊥) → 0 ≡ bit (eqb (byte s (at + 2)) 1)
  mark_none at b e h = rw (ne_eqb (byte s (at + 2)) 1 (rw (← e) h))

  pub head_out : (at to wires m b k p q r x : ℕ) (out o₁ o₂ o₃ o₄ : List ℕ) → m ≡ be16 s at → Wrote (be 2 m) to out o₁ p → b ≡ bit (eqb (byte s (at + 2)) 1)
      → Wrote (be 1 b) p o₁ o₂ q → Wrote (be 4 wires) q o₂ o₃ r → k ≡ byte s (at + 7) → Wrote (be 1 k) r o₃ o₄ x → o₄ ≡ head_written s at to wires out
  unfolding head_written head_of write_head
  head_out at to wires m b k p q r x out o₁ o₂ o₃ o₄ em h₁ eb h₂ h₃ ek h₄ =
      (then (then (then (rw em at h₁) (rw eb at h₂)) h₃) (rw ek at h₄)).out

  module _ (t : Total) (m : Measured) (z to : ℕ) (ws : List ℕ) (em : m ≡ measured s ws t.at) (ez : z ≡ size s t.at m) (et : to ≡ on t.to z) where
    pub sum_greater : t.wires < m.wires → record { at = m.end; wires = m.wires; to = to } ≡ summed s ws t
    unfolding summed
    sum_greater h = rw (← em, ← ez, ← et) (lt_yes _ _ _ _ h refl)

    pub sum_no_greater : m.wires ≤ t.wires → record { at = m.end; wires = t.wires; to = to } ≡ summed s ws t
    unfolding summed
    sum_no_greater h = rw (← em, ← ez, ← et) (lt_no _ _ _ _ h refl)

  pub summed_more : (t u x : Total) (k : ℕ) (ws w : List ℕ) → summed_all s ws t k ≡ x → 0 < k → u ≡ summed s ws t → w ≡ passed s ws t.at
      → summed_all s w u (k - 1) ≡ x
  unfolding summed_all
  summed_more t u x zero ws w e h eu ew = absurd (not-suc-le-zero h)
  summed_more t u x (suc k) ws w e h eu ew = rw (sub-one, eu, ew) e

  pub summed_done : (t x : Total) (k : ℕ) (ws : List ℕ) → summed_all s ws t k ≡ x → k ≤ 0 → t ≡ x
  unfolding summed_all
  summed_done t x zero ws e h = e
  summed_done t x (suc k) ws e h = absurd (not-suc-le-zero h)

  pub passed_more : (t u : Total) (k : ℕ) (ws w x : List ℕ) → passed_all s ws t k ≡ x → 0 < k → u ≡ summed s ws t → w ≡ passed s ws t.at
      → passed_all s w u (k - 1) ≡ x
  unfolding passed_all
  passed_more t u zero ws w x e h eu ew = absurd (not-suc-le-zero h)
  passed_more t u (suc k) ws w x e h eu ew = rw (sub-one, eu, ew) e

  pub passed_done : (t : Total) (k : ℕ) (ws x : List ℕ) → passed_all s ws t k ≡ x → k ≤ 0 → ws ≡ x
  unfolding passed_all
  passed_done t zero ws x e h = e
  passed_done t (suc k) ws x e h = absurd (not-suc-le-zero h)

  pub spot_more : (p q x : Spot) (k : ℕ) (ws w : List ℕ) → nets_spot s ws p k ≡ x → 0 < k → q ≡ net_spot s ws p → w ≡ net_words s ws p
      → nets_spot s w q (k - 1) ≡ x
  unfolding nets_spot
  spot_more p q x zero ws w e h eq ew = absurd (not-suc-le-zero h)
  spot_more p q x (suc k) ws w e h eq ew = rw (sub-one, eq, ew) e

  pub spot_done : (p x : Spot) (k : ℕ) (ws : List ℕ) → nets_spot s ws p k ≡ x → k ≤ 0 → p ≡ x
  unfolding nets_spot
  spot_done p x zero ws e h = e
  spot_done p x (suc k) ws e h = absurd (not-suc-le-zero h)

  pub words_more : (p q : Spot) (k : ℕ) (ws w x : List ℕ) → nets_words s ws p k ≡ x → 0 < k → q ≡ net_spot s ws p → w ≡ net_words s ws p
      → nets_words s w q (k - 1) ≡ x
  unfolding nets_words
  words_more p q zero ws w x e h eq ew = absurd (not-suc-le-zero h)
  words_more p q (suc k) ws w x e h eq ew = rw (sub-one, eq, ew) e

  pub words_done : (p : Spot) (k : ℕ) (ws x : List ℕ) → nets_words s ws p k ≡ x → k ≤ 0 → ws ≡ x
  unfolding nets_words
  words_done p zero ws x e h = e
  words_done p (suc k) ws x e h = absurd (not-suc-le-zero h)

  pub out_more : (p q : Spot) (k : ℕ) (ws w out o x : List ℕ) → nets_out s ws p k out ≡ x → 0 < k → q ≡ net_spot s ws p → w ≡ net_words s ws p
      → o ≡ net_out s ws p out → nets_out s w q (k - 1) o ≡ x
  unfolding nets_out
  out_more p q zero ws w out o x e h eq ew eo = absurd (not-suc-le-zero h)
  out_more p q (suc k) ws w out o x e h eq ew eo = rw (sub-one, eq, ew, eo) e

  pub out_done : (p : Spot) (k : ℕ) (ws out x : List ℕ) → nets_out s ws p k out ≡ x → k ≤ 0 → out ≡ x
  unfolding nets_out
  out_done p zero ws out x e h = e
  out_done p (suc k) ws out x e h = absurd (not-suc-le-zero h)
