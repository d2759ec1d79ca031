-- Tests of numbers, as facts.
use Rattle.std.specs.Prelude.{ℕ, ◌≤◌, ◌≡◌, refl, ◌⊎◌, Bool, true, false, ◌||◌, eqb}
use Rattle.std.proofs.Common.{inl, inr, arith, true≢false, eqb-true, eq-eqb}
use Rattle.std.proofs.lemmas.Bool.{false≢true, eqb-false}
use mathlib.Core.List.Memᴰ
use mathlib.Core.List.{List, [], ◌∷◌, Memᴰ}
use Rattle.net_file.specs.Lists.{any, bit}

pub eqb_self : (n : ℕ) → eqb n n ≡ true
eqb_self n = eq-eqb n n refl

-- a test is 0 or 1 as a number
pub bit_most : (b : Bool) → bit b ≤ 1
bit_most true = omega arith
bit_most false = omega arith

-- ---- membership, as the definitions test it

pub any_true : (x : ℕ) (ys : List ℕ) → any (eqb x) ys ≡ true → Memᴰ x ys
any_true x [] h = absurd (false≢true h)
any_true x (y ∷ ys) h = go (eqb x y) refl h (λ k. any_true x ys k)
  where
    go : (t : Bool) → eqb x y ≡ t → (t || any (eqb x) ys) ≡ true → (any (eqb x) ys ≡ true → Memᴰ x ys) → Memᴰ x (y ∷ ys)
    go true e k f = Memᴰ.head (eqb-true x y e)
    go false e k f = Memᴰ.tail (f k)

pub any_false : (x : ℕ) (ys : List ℕ) → any (eqb x) ys ≡ false → Memᴰ x ys → ⊥
any_false x [] h m = Memᴰ.not-nil m
any_false x (y ∷ ys) h m = go (eqb x y) refl h (λ k. any_false x ys k)
  where
    go : (t : Bool) → eqb x y ≡ t → (t || any (eqb x) ys) ≡ false → (any (eqb x) ys ≡ false → Memᴰ x ys → ⊥) → ⊥
    go true e k f = true≢false k
    go false e k f = case (Memᴰ.cases_cons m)
      where
        case : (x ≡ y) ⊎ Memᴰ x ys → ⊥
        case (inl s) = eqb-false x y e s
        case (inr t) = f k t
