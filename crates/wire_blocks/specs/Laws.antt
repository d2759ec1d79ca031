-- What is passed over has no mark; and a mark, once set, stays.
use Prim.Native.Nat.{ℕ, zero, suc, ◌+◌, ◌*◌, ◌-◌, ◌/◌, ◌%◌, ◌<◌, ◌≤◌}
use Rattle.std.specs.Prelude.{◌≡◌, List, [], ◌∷◌, length, get_or, set}
use Rattle.std.proofs.Math.Path.{refl}
use Rattle.std.proofs.Common.{sym, ap, ◌∙◌}
use native.Mathlib.Omega.{arith}
use Rattle.std.proofs.Math.Decide.{dec_lt, ℕ_discrete}
use Rattle.std.proofs.Math.ListN.{length-set}
use Rattle.std.proofs.Math.Seq.{get_or-set_same, get_or-set_other, set_out}
use Rattle.words.specs.Choose.{eq_split}
use Rattle.wire_blocks.specs.Blocks.{row_mark, block_mark, marked, row_stride, stride, looked}
use Rattle.wire_blocks.specs.Ways.{forward, looked_more, looked_done}

-- ---- a mark set

module _ (base : ℕ) (ws : List ℕ) (w : ℕ) where
  pub length_marked : length (marked base ws w) ≡ length ws
  unfolding marked
  length_marked = length-set (set ws (base + w / 1024) 1) (base + 64 + w / 32) 1 ∙ length-set ws (base + w / 1024) 1

  -- words that are no marks stay
  pub marked_before : (i : ℕ) → i < base → get_or (marked base ws w) i 0 ≡ get_or ws i 0
  unfolding marked
  marked_before i h =
      get_or-set_other (set ws (base + w / 1024) 1) (base + 64 + w / 32) i 1 0 (λ e. absurd (omega arith))
      ∙ get_or-set_other ws (base + w / 1024) i 1 0 (λ e. absurd (omega arith))

  -- no mark goes
  set_one : (xs : List ℕ) (j i : ℕ) → get_or (set xs j 1) i 0 ≡ 0 → get_or xs i 0 ≡ 0
  set_one xs j i e = elim (ℕ_discrete i j) [
    | yes d ↦ elim (dec_lt j (length xs)) [
      | yes l ↦ let f : get_or (set xs j 1) i 0 ≡ 1 = rw d (get_or-set_same xs j 1 0 l) in absurd (omega arith)
      | no l ↦ rw (set_out xs j 1 (omega arith)) at e
    ]
    | no d ↦ sym (get_or-set_other xs j i 1 0 d) ∙ e
  ]

  pub marks_stay : (i : ℕ) → get_or (marked base ws w) i 0 ≡ 0 → get_or ws i 0 ≡ 0
  unfolding marked
  marks_stay i e = set_one ws (base + w / 1024) i (set_one (set ws (base + w / 1024) 1) (base + 64 + w / 32) i e)

  module _ (low : w < 65536) (room : base + 2112 ≤ length ws) where
    pub row_set : row_mark base (marked base ws w) w ≡ 1
    unfolding row_mark marked
    row_set =
        get_or-set_other (set ws (base + w / 1024) 1) (base + 64 + w / 32) (base + w / 1024) 1 0 (λ e. absurd (omega arith))
        ∙ get_or-set_same ws (base + w / 1024) 1 0 (omega arith)

    pub block_set : block_mark base (marked base ws w) w ≡ 1
    unfolding block_mark marked
    block_set = get_or-set_same (set ws (base + w / 1024) 1) (base + 64 + w / 32) 1 0 (rw (length-set ws (base + w / 1024) 1) (omega arith))

-- ---- the wires that are looked at

-- k wires from w on
unfoldable pub wires_from : ℕ → ℕ → List ℕ
wires_from w zero = []
wires_from w (suc k) = w ∷ wires_from (suc w) k

-- the first is the second without some that have nothing
pub data Less (Nothing : ℕ → Type 0) : List ℕ → List ℕ → Type 0 where
  none : Less Nothing [] []
  both : {w : ℕ} {l m : List ℕ} → Less Nothing l m → Less Nothing (w ∷ l) (w ∷ m)
  less : {w : ℕ} {l m : List ℕ} → Nothing w → Less Nothing l m → Less Nothing l (w ∷ m)

-- nothing from w on, up to a wire from which on it holds
skip : (Nothing : ℕ → Type 0) (l : List ℕ) (d w k : ℕ) → d ≤ k → ((v : ℕ) → w ≤ v → v < w + d → Nothing v) → Less Nothing l (wires_from (w + d) (k - d)) → Less Nothing l (wires_from w k)
unfolding wires_from
skip Nothing l zero w k h z t = let e : w + 0 ≡ w = omega arith in let f : k - 0 ≡ k = omega arith in rw (e, f) at t
skip Nothing l (suc d) w zero h z t = absurd (omega arith)
skip Nothing l (suc d) w (suc k) h z t =
    less (z w (omega arith) (omega arith))
    (skip Nothing l d (suc w) k (omega arith) (λ v i j. z v (omega arith) (omega arith))
    (let e : w + suc d ≡ suc w + d = omega arith in let f : suc k - suc d ≡ k - d = omega arith in rw (e, f) at t))

-- nothing to the end
skip_all : (Nothing : ℕ → Type 0) (w k : ℕ) → ((v : ℕ) → w ≤ v → v < w + k → Nothing v) → Less Nothing [] (wires_from w k)
unfolding wires_from
skip_all Nothing w zero z = none
skip_all Nothing w (suc k) z = less (z w (omega arith) (omega arith)) (skip_all Nothing (suc w) k (λ v i j. z v (omega arith) (omega arith)))

module _ (base : ℕ) (ws : List ℕ) (n : ℕ) (Nothing : ℕ → Type 0) (row : (w : ℕ) → w < n → row_mark base ws w ≡ 0 → Nothing w) (block : (w : ℕ) → w < n → block_mark base ws w ≡ 0 → Nothing w) where
  -- in a row, or a block, that begins at w and has no mark there is nothing
  in_row : (w v : ℕ) → w % 1024 ≡ 0 → row_mark base ws w ≡ 0 → w ≤ v → v < w + 1024 → v < n → Nothing v
  unfolding row_mark
  in_row w v h z a b l = let e : v / 1024 ≡ w / 1024 = omega arith in row v l (rw e z)

  in_block : (w v : ℕ) → w % 32 ≡ 0 → block_mark base ws w ≡ 0 → w ≤ v → v < w + 32 → v < n → Nothing v
  unfolding block_mark
  in_block w v h z a b l = let e : v / 32 ≡ w / 32 = omega arith in block v l (rw e z)

  -- nothing is passed over
  passed_row : (w v : ℕ) → w % 32 ≡ 0 → block_mark base ws w ≡ 0 → w < v → v < n → v < w + row_stride base ws w → Nothing v
  unfolding row_stride
  passed_row w v h z a l =
      eq_split _ _ _ _ (λ (d : ℕ). v < w + d → Nothing v)
      (λ i. eq_split _ _ _ _ (λ (d : ℕ). v < w + d → Nothing v) (λ y b. in_row w v i y (omega arith) b l) (λ y b. in_block w v h z (omega arith) b l))
      (λ i b. in_block w v h z (omega arith) b l)

  passed : (w v : ℕ) → w < v → v < n → v < w + stride base ws w → Nothing v
  unfolding stride
  passed w v a l =
      eq_split _ _ _ _ (λ (d : ℕ). v < w + d → Nothing v)
      (λ h. eq_split _ _ _ _ (λ (d : ℕ). v < w + d → Nothing v) (λ z b. passed_row w v h z a l b) (λ z b. absurd (omega arith)))
      (λ h b. absurd (omega arith))

  looks_less : (k w : ℕ) → n ≤ w + k → Less Nothing (looked base ws n w) (wires_from w (n - w))
  unfolding wires_from
  looks_less zero w h = let e : n - w ≡ 0 = omega arith in rw (looked_done base ws n w (omega arith), e) none
  looks_less (suc k) w h = elim (dec_lt w n) [
    | yes l ↦
        let d = stride base ws w in
        let f = forward base ws w in
        let e : n - w ≡ suc (n - suc w) = omega arith in
        rw (looked_more base ws n w d l refl, e) (both (after w d f (looks_less k (w + d) (omega arith)) (λ v i j m. passed w v m i j)))
    | no l ↦ let e : n - w ≡ 0 = omega arith in rw (looked_done base ws n w (omega arith), e) none
  ]
    where
      after : (w d : ℕ) → 0 < d → Less Nothing (looked base ws n (w + d)) (wires_from (w + d) (n - (w + d))) → ((v : ℕ) → v < n → v < w + d → w < v → Nothing v)
          → Less Nothing (looked base ws n (w + d)) (wires_from (suc w) (n - suc w))
      after w d f t z = elim (dec_lt (w + d) n) [
        | yes l ↦
            let e : w + d ≡ suc w + (d - 1) = omega arith in
            let g : n - (w + d) ≡ n - suc w - (d - 1) = omega arith in
            skip Nothing (looked base ws n (w + d)) (d - 1) (suc w) (n - suc w) (omega arith) (λ v i j. z v (omega arith) (omega arith) (omega arith)) (carry (suc w + (d - 1)) (n - suc w - (d - 1)) e g t)
        | no l ↦ rw (looked_done base ws n (w + d) (omega arith)) (skip_all Nothing (suc w) (n - suc w) (λ v i j. z v (omega arith) (omega arith) (omega arith)))
      ]
        where
          carry : (a b : ℕ) → w + d ≡ a → n - (w + d) ≡ b → Less Nothing (looked base ws n (w + d)) (wires_from (w + d) (n - (w + d))) → Less Nothing (looked base ws n (w + d)) (wires_from a b)
          carry a b e g t = rw (← e, ← g) t

  -- the wires that are looked at are all below n, but for some that have nothing
  pub looked_less : Less Nothing (looked base ws n 0) (wires_from 0 n)
  looked_less = let e : n - 0 ≡ n = omega arith in rw e at (looks_less n 0 (omega arith))
