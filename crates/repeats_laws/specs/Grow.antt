-- The array after an item that is not in it was put in: it ascends, and holds one place more.
use Rattle.std.specs.Prelude.{ℕ, zero, suc, ◌<◌, ◌≤◌, ◌≡◌, List, length, get_or}
use Rattle.std.proofs.Common.{arith}
use Rattle.std.proofs.Math.Decide.{ℕ_discrete, dec_lt}
use Rattle.repeats.specs.Repeats.{insert}
use Rattle.repeats_laws.specs.Runs.{Before}
use Rattle.repeats_laws.specs.Find.{Ascends, Missing}
use Rattle.repeats_laws.specs.Arrays.{insert_low, insert_at, insert_high}

-- an entry of the grown array: one of before, at its place or one further on, or the new one
pub data Entry (l w : List ℕ) (m p at : ℕ) : ℕ → Type 0 where
  low : {j : ℕ} → j < p → get_or w j 0 ≡ get_or l j 0 → Entry l w m p at j
  new : get_or w p 0 ≡ at → Entry l w m p at p
  high : {j : ℕ} → p ≤ j → j < m → get_or w (suc j) 0 ≡ get_or l j 0 → Entry l w m p at (suc j)

module _ (l : List ℕ) (m p at : ℕ) (h : m < length l) (i : p ≤ m) where
  pub entry : (j : ℕ) → j < suc m → Entry l (insert l m p at) m p at j
  entry j r = elim (dec_lt j p) [
    | yes q ↦ low q (insert_low l m p at h i j q)
    | no q ↦ elim (ℕ_discrete j p) [
      | yes e ↦ rw e (new (insert_at l m p at h i))
      | no n ↦ after j (omega arith) (omega arith)
    ]
  ]
    where
      after : (j : ℕ) → p < j → j < suc m → Entry l (insert l m p at) m p at j
      after zero a b = absurd (omega arith)
      after (suc j) a b =
          let a' : p ≤ j = omega arith in
          let b' : j < m = omega arith in
          high a' b' (insert_high l m p at h i j a' b')

module _ (s l : List ℕ) (m at n p : ℕ) (up : Ascends s l m) (g : Missing s l m at n p) (h : m < length l) where
  abbrev w : List ℕ
  w = insert l m p at

  abbrev Up : ℕ → ℕ → Type 0
  Up a b = (k : ℕ) × Before s k a b

  two : (i j : ℕ) → i < j → j < suc m → Entry l w m p at i → Entry l w m p at j → Up (get_or w i 0) (get_or w j 0)
  two i j r t (low a e) (low b f) = rw (e, f) (up.ups i j r (let v = g.inside in omega arith))
  two i j r t (low a e) (new f) = rw (e, f) (n, g.below i a)
  two i j r t (low a e) (high {j = y} b c f) = rw (e, f) (up.ups i y (omega arith) c)
  two i j r t (new e) (low b f) = absurd (omega arith)
  two i j r t (new e) (new f) = absurd (omega arith)
  two i j r t (new e) (high {j = y} b c f) = rw (e, f) (n, g.above y b c)
  two i j r t (high a d e) (low b f) = absurd (omega arith)
  two i j r t (high a d e) (new f) = absurd (omega arith)
  two i j r t (high {j = x} a d e) (high {j = y} b c f) = rw (e, f) (up.ups x y (omega arith) c)

  pub grown : Ascends s (insert l m p at) (suc m)
  grown = record { ups = λ i j r t. two i j r t (entry l m p at h g.inside i (omega arith)) (entry l m p at h g.inside j t) }
