-- A set of rules as a number: one more bit, where it was 0, and no other changes.
use Rattle.std.specs.Prelude.{ℕ, zero, suc, ◌+◌, ◌*◌, ◌/◌, ◌%◌, ◌-◌, ◌^◌, ◌<◌, ◌≤◌, ◌≡◌, refl, true, false, eqb}
use Rattle.std.proofs.Common.{sym, ap, ◌∙◌, arith, pow-suc, div-one, shr-shr, eq-eqb}
use Rattle.std.proofs.Math.Nat.{mod-eq_of_lt}
use Rattle.std.proofs.Math.Decide.{dec_lt}
use Rattle.std.proofs.Math.Pow.{pow-lt, field, mod-mod-pow}
use Rattle.std.proofs.lemmas.Bool.{eqb-false}
use Rattle.words.specs.Choose.{lt_yes, lt_no}
use Rattle.rule_sets.specs.Sets.{has, bit_of}

-- bit r, by halves
unfoldable pub bit : ℕ → ℕ → ℕ
bit x zero = x % 2
bit x (suc r) = bit (x / 2) r

pub bit_is : (r x : ℕ) → x / 2 ^ r % 2 ≡ bit x r
unfolding bit
bit_is zero x = ap (λ (y : ℕ). y % 2) (div-one x)
bit_is (suc r) x =
    let e : suc r ≡ 1 + r = omega arith in
    rw e (ap (λ (y : ℕ). y % 2) (sym (shr-shr x 1 r)) ∙ bit_is r (x / 2))

bit_small : (r x : ℕ) → bit x r < 2
unfolding bit
bit_small zero x = omega arith
bit_small (suc r) x = bit_small r (x / 2)

half : (q x : ℕ) → ((x + 2 ^ suc q) / 2 ≡ x / 2 + 2 ^ q) × ((x + 2 ^ suc q) % 2 ≡ x % 2)
half q x = let p : 2 ^ suc q ≡ 2 ^ q * 2 = pow-suc 2 q in (omega arith, omega arith)

one_more : (q x : ℕ) → bit x q ≡ 0 → bit (x + 2 ^ q) q ≡ 1
unfolding bit
one_more zero x e = let p : 2 ^ 0 ≡ 1 = refl in omega arith
one_more (suc q) x e = rw (half q x).0 (one_more q (x / 2) e)

no_other : (q r x : ℕ) → bit x q ≡ 0 → (r ≡ q → ⊥) → bit (x + 2 ^ q) r ≡ bit x r
unfolding bit
no_other zero zero x e n = absurd (n refl)
no_other zero (suc r) x e n = let p : (x + 1) / 2 ≡ x / 2 = omega arith in ap (λ (y : ℕ). bit y r) p
no_other (suc q) zero x e n = (half q x).1
no_other (suc q) (suc r) x e n = rw (half q x).0 (no_other q r (x / 2) e (λ i. n (ap suc i)))

-- ---- as a set has them

pub has_bit : (x r : ℕ) → r < 64 → has x r ≡ eqb (bit x r) 1
unfolding has
has_bit x r h = sym (lt_yes r 64 _ _ h (ap (λ (y : ℕ). eqb y 1) (sym (bit_is r x))))

pub has_past : (x r : ℕ) → 64 ≤ r → has x r ≡ false
unfolding has
has_past x r h = sym (lt_no r 64 _ _ h refl)

-- the empty set
pub has_none : (r : ℕ) → has 0 r ≡ false
unfolding bit
has_none r = elim (dec_lt r 64) [ yes h ↦ has_bit 0 r h ∙ ap (λ (y : ℕ). eqb y 1) (nothing r) | no h ↦ has_past 0 r (omega arith) ]
  where
    nothing : (r : ℕ) → bit 0 r ≡ 0
    nothing zero = refl
    nothing (suc r) = nothing r

-- a word keeps 64
has_wrapped : (x r : ℕ) → has (x % 2 ^ 64) r ≡ has x r
has_wrapped x r = elim (dec_lt r 64) [
  | yes h ↦
      let d = 63 - r in
      let e : 64 ≡ d + 1 + r = omega arith in
      let g : x % 2 ^ 64 / 2 ^ r ≡ x / 2 ^ r % 2 ^ (d + 1) = ap (λ (n : ℕ). x % 2 ^ n / 2 ^ r) e ∙ field x (d + 1) r in
      let w : bit (x % 2 ^ 64) r ≡ bit x r = sym (bit_is r (x % 2 ^ 64)) ∙ ap (λ (y : ℕ). y % 2) g ∙ mod-mod-pow (x / 2 ^ r) d 1 ∙ bit_is r x in
      has_bit (x % 2 ^ 64) r h ∙ ap (λ (y : ℕ). eqb y 1) w ∙ sym (has_bit x r h)
  | no h ↦ has_past (x % 2 ^ 64) r (omega arith) ∙ sym (has_past x r (omega arith))
]

module _ (x r : ℕ) (h : r < 64) (e : has x r ≡ false) where
  zero_there : bit x r ≡ 0
  zero_there = omega (arith, bit_small r x, eqb-false (bit x r) 1 (sym (has_bit x r h) ∙ e))

  bit_itself : bit_of r ≡ 2 ^ r
  unfolding bit_of
  bit_itself = mod-eq_of_lt (pow-lt h)

  pub added_own : has ((x + bit_of r) % 2 ^ 64) r ≡ true
  added_own = rw bit_itself (has_wrapped (x + 2 ^ r) r ∙ has_bit (x + 2 ^ r) r h ∙ eq-eqb (bit (x + 2 ^ r) r) 1 (one_more r x zero_there))

  pub added_other : (q : ℕ) → (q ≡ r → ⊥) → has ((x + bit_of r) % 2 ^ 64) q ≡ has x q
  added_other q n = rw bit_itself (has_wrapped (x + 2 ^ r) q ∙ elim (dec_lt q 64) [
    | yes l ↦ has_bit (x + 2 ^ r) q l ∙ ap (λ (y : ℕ). eqb y 1) (no_other r q x zero_there n) ∙ sym (has_bit x q l)
    | no l ↦ has_past (x + 2 ^ r) q (omega arith) ∙ sym (has_past x q (omega arith))
  ])
