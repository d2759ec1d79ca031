-- Places of the output, and bytes that are stored one part after another.
use Rattle.std.specs.Prelude.{ℕ, zero, suc, ◌+◌, ◌-◌, ◌<◌, ◌≤◌, min, ◌≡◌, refl, List, [], ◌++◌, length}
use Rattle.std.proofs.Math.Path.{sym}
use Rattle.std.proofs.Common.{ap, ◌∙◌, arith}
use Rattle.std.proofs.Math.Decide.{dec_lt}
use Rattle.words.specs.Choose.{lt_yes, lt_no}
use Rattle.put.specs.Laws.{length_put_in, Size, begin, then}
use Rattle.store.specs.Store.{store}
use Rattle.resolve_walk.specs.Walk.{on}

-- the last place of all
abbrev pub most : ℕ
most = 18446744073709551615

module _ (to : ℕ) (low : to ≤ most) where
  on_is : (k : ℕ) → on to k ≡ min most (to + k)
  unfolding on
  on_is k = elim (dec_lt (most - to) k) [
    | yes h ↦ sym (lt_yes (most - to) k most (to + k) h (omega arith))
    | no h ↦ sym (lt_no (most - to) k most (to + k) (omega arith) (omega arith))
  ]

  pub on_most : (k : ℕ) → on to k ≤ most
  on_most k = omega (arith, on_is k)

  pub on_none : on to 0 ≡ to
  on_none = omega (arith, on_is 0)

  pub on_fits : (k l : ℕ) → to + k ≤ l → l ≤ most → on to k ≡ to + k
  on_fits k l h g = omega (arith, on_is k)

pub on_on : (to : ℕ) → to ≤ most → (a b : ℕ) → on (on to a) b ≡ on to (a + b)
on_on to low a b = omega (arith, on_is to low a, on_is to low (a + b), on_is (on to a) (on_most to low a) b)

-- one part behind the other
pub store_append : (out : List ℕ) (at : ℕ) (xs ys : List ℕ) → at + (length xs + length ys) ≤ length out → store (at + length xs) ys (store at xs out) ≡ store at (xs ++ ys) out
store_append out at xs ys h =
    (then (begin (record { is = refl }) (record { is = refl; out = refl })) (record { is = refl }) refl h (record { is = refl; out = refl })).written.out

pub store_length : (out : List ℕ) (at : ℕ) (bs : List ℕ) → at + length bs ≤ length out → length (store at bs out) ≡ length out
store_length out at bs h = length_put_in out at bs h
