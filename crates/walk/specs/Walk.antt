-- Each way out of a walk: what the tests on the way say, and that the reader agrees.
use Rattle.std.specs.Prelude.{ℕ, zero, suc, ◌+◌, ◌*◌, ◌-◌, ◌/◌, ◌<◌, ◌≤◌, ◌≡◌, List, length, drop, eqb, Option, Some, None}
use Rattle.std.proofs.Math.Path.{sym, ap}
use Rattle.std.proofs.Common.{◌∙◌}
use Rattle.std.proofs.Math.Option.{none, some}
use native.Mathlib.Omega.{arith}
use Rattle.std.proofs.Math.Decide.{dec_lt}
use Rattle.net_file.specs.Values.{Name}
use Rattle.net_file.specs.Read.{Parser, then, ◌>>=◌, give, number, below, times, many, read_name, read_bit}
use Rattle.fields.specs.Fields.{byte, be16, be64}
use Rattle.stored.specs.Laws.{in_1, in_2, in_8, run_out, below_in, below_high, below_out, stands_below, stands_2, stands_8}
use Rattle.walk.specs.After.{after, after_past, after_none, after_bind, after_stop, after_map}
use Rattle.walk.specs.Loops.{times_suc, times_next, times_none, times_done}
use Rattle.walk.specs.Room.{needs_next, needs_first, needs_many, after_short}

-- ---- a number below a bound

module _ (s : List ℕ) (b at : ℕ) where
  pub below_2 : at + 2 ≤ length s → be16 s at < b → below 2 b (drop at s) ≡ some (be16 s at, drop (at + 2) s)
  below_2 h l = below_in 2 b (drop at s) _ _ (in_2 s at h) l

  pub below_2_high : at + 2 ≤ length s → b ≤ be16 s at → below 2 b (drop at s) ≡ none
  below_2_high h l = below_high 2 b (drop at s) _ _ (in_2 s at h) l

  pub below_2_out : at ≤ length s → length s < at + 2 → below 2 b (drop at s) ≡ none
  below_2_out i h = below_out 2 b (drop at s) (run_out s 2 at i h)

-- a mark of one byte, 0 or 1
module _ (s : List ℕ) (at : ℕ) where
  pub bit_in : at + 1 ≤ length s → byte s at < 2 → read_bit (drop at s) ≡ some (eqb (byte s at) 1, drop (at + 1) s)
  unfolding read_bit
  bit_in h l = ap (λ o. then o (λ b. give (eqb b 1))) (below_in 1 2 (drop at s) _ _ (in_1 s at h) l)

  pub bit_high : at + 1 ≤ length s → 2 ≤ byte s at → read_bit (drop at s) ≡ none
  unfolding read_bit
  bit_high h l = ap (λ o. then o (λ b. give (eqb b 1))) (below_high 1 2 (drop at s) _ _ (in_1 s at h) l)

-- ---- numbers

module _ (s : List ℕ) (b : ℕ) where
  numbers_out : (at n : ℕ) → at ≤ length s → length s < at + 2 * n → times n (below 2 b) (drop at s) ≡ none
  numbers_out at zero h l = absurd (omega arith)
  numbers_out at (suc n) h l = rw times_suc (elim (dec_lt (length s) (at + 2)) [
    | yes o ↦ rw (below_2_out s b at h o)
    | no o ↦ elim (dec_lt (be16 s at) b) [
      | yes w ↦ rw (below_2 s b at (omega arith) w) (rw (numbers_out (at + 2) n (omega arith) (omega arith)))
      | no w ↦ rw (below_2_high s b at (omega arith) (omega arith))
    ]
  ])

  pub numbers_past : (at n : ℕ) → length s < at → None ≡ after at (times n (below 2 b)) s
  numbers_past at n h = after_past (times n (below 2 b)) s at h

  pub numbers_short : (at n : ℕ) → at ≤ length s → (length s - at) / 2 < n → None ≡ after at (times n (below 2 b)) s
  numbers_short at n h l = after_none (times n (below 2 b)) s at h (numbers_out at n h (omega arith))

  pub numbers_more : (at n i x : ℕ) (r : Option ℕ) → after at (times (n - i) (below 2 b)) s ≡ r → i < n → at + 2 * (n - i) ≤ length s → x ≡ be16 s at → x < b
      → after (at + 2) (times (n - (i + 1)) (below 2 b)) s ≡ r
  numbers_more at n i x r e h l ex w =
      let k : n - (i + 1) ≡ n - i - 1 = omega arith in
      rw k (times_next (below 2 b) s at (at + 2) (n - i) (be16 s at) r e (omega arith) (omega arith) (below_2 s b at (omega arith) (omega arith)) (omega arith))

  pub numbers_high : (at k x : ℕ) (r : Option ℕ) → after at (times k (below 2 b)) s ≡ r → 0 < k → at + 2 * k ≤ length s → x ≡ be16 s at → b ≤ x → None ≡ r
  numbers_high at k x r e h l ex w = times_none (below 2 b) s at k r e h (omega arith) (below_2_high s b at (omega arith) (omega arith))

  pub numbers_done : (at k : ℕ) (r : Option ℕ) → after at (times k (below 2 b)) s ≡ r → k ≤ 0 → at + 2 * k ≤ length s → Some at ≡ r
  numbers_done at k r e h l = times_done (below 2 b) s at k r e h (omega arith)

-- ---- a count of one byte, then as many

module _ {A : Type 0} (s : List ℕ) (p : Parser A) (at m k : ℕ) where
  pub many_none : length s ≤ at → None ≡ after at (many 1 m p) s
  unfolding many
  many_none h = elim (dec_lt (length s) at) [
    | yes l ↦ after_past (many 1 m p) s at l
    | no l ↦ after_stop (below 1 (suc m)) (λ n. times n p) s at (omega arith) (below_out 1 (suc m) (drop at s) (run_out s 1 at (omega arith) (omega arith)))
  ]

  pub many_high : at < length s → k ≡ byte s at → m < k → None ≡ after at (many 1 m p) s
  unfolding many
  many_high h e l = after_stop (below 1 (suc m)) (λ n. times n p) s at (omega arith) (below_high 1 (suc m) (drop at s) _ _ (in_1 s at (omega arith)) (omega arith))

  pub many_on : (w : Option ℕ) → at < length s → k ≡ byte s at → k ≤ m → w ≡ after (at + 1) (times k p) s → w ≡ after at (many 1 m p) s
  unfolding many
  many_on w h e l ew =
      ew ∙ ap (λ n. after (at + 1) (times n p) s) e
      ∙ sym (after_bind (below 1 (suc m)) (λ n. times n p) s at (byte s at) (at + 1) (omega arith)
      (below_in 1 (suc m) (drop at s) _ _ (in_1 s at (omega arith)) (omega arith)) (omega arith))

-- ---- a count of two bytes, at most m, then as many

module _ {A : Type 0} (s : List ℕ) (p : Parser A) (at m : ℕ) where
  pub many_2_short : length s < at + 2 → None ≡ after at (many 2 m p) s
  many_2_short h = after_short s at (needs_many 2 m p) h

  pub many_2_high : (k : ℕ) → 2 ≤ length s → at ≤ length s - 2 → k ≡ be16 s at → m < k → None ≡ after at (many 2 m p) s
  unfolding many
  many_2_high k i h e l = after_stop (below 2 (suc m)) (λ n. times n p) s at (omega arith) (below_high 2 (suc m) (drop at s) _ _ (in_2 s at (omega arith)) (omega arith))

  pub many_2_on : (k : ℕ) (w : Option ℕ) → 2 ≤ length s → at ≤ length s - 2 → k ≡ be16 s at → k ≤ m → w ≡ after (at + 2) (times k p) s → w ≡ after at (many 2 m p) s
  unfolding many
  many_2_on k w i h e l ew =
      ew ∙ ap (λ n. after (at + 2) (times n p) s) e
      ∙ sym (after_bind (below 2 (suc m)) (λ n. times n p) s at (be16 s at) (at + 2) (omega arith)
      (below_in 2 (suc m) (drop at s) _ _ (in_2 s at (omega arith)) (omega arith)) (omega arith))

-- ---- a name

module _ (s : List ℕ) (at paths c : ℕ) where
  -- a name's parts after its path
  abbrev rest : ℕ → Parser Name
  rest p = number 8 >>= λ y. many 1 8 (below 2 c) >>= λ cs. give (record { path = p; payload = y; children = cs })

  pub name_on : (p : ℕ) (w : Option ℕ) → 11 ≤ length s → at ≤ length s - 11 → p ≡ be16 s at → p < paths → w ≡ after (at + 10) (many 1 8 (below 2 c)) s → w ≡ after at (read_name paths c) s
  unfolding read_name
  name_on p w i h ep l ew =
      let e : at + 2 + 8 ≡ at + 10 = omega arith in
      ew ∙ sym (after_bind (below 2 paths) rest s at (be16 s at) (at + 2) (omega arith) (below_2 s paths at (omega arith) (omega arith)) (omega arith)
      ∙ after_bind (number 8) _ s (at + 2) (be64 s (at + 2)) (at + 10) (omega arith) (rw e at (in_8 s (at + 2) (omega arith))) (omega arith)
      ∙ after_map (many 1 8 (below 2 c)) _ s (at + 10))

  pub name_path : (p : ℕ) → 11 ≤ length s → at ≤ length s - 11 → p ≡ be16 s at → paths ≤ p → None ≡ after at (read_name paths c) s
  unfolding read_name
  name_path p i h ep l = after_stop (below 2 paths) rest s at (omega arith) (below_2_high s paths at (omega arith) (omega arith))

  pub name_short : length s < at + 11 → None ≡ after at (read_name paths c) s
  unfolding read_name
  name_short h = after_short s at
      (needs_next 2 rest (λ a. stands_below s 2 paths a _ _ (stands_2 s a)) (λ p. needs_next 8 _ (stands_8 s) (λ y. needs_first _ (needs_many 1 8 (below 2 c)))))
      h

-- every way out, for the checks of the walks
pub ruleset ways = (numbers_past, numbers_short, numbers_more, numbers_high, numbers_done, many_none, many_high, many_on, name_short, name_path, name_on)
