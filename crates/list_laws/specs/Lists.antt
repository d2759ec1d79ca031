-- Laws of the tests over lists, and of how many elements pass one.
use Rattle.std.specs.Prelude.{ℕ, suc, ◌+◌, ◌≤◌, ◌≡◌, refl, Bool, true, false, not, ◌&&◌, ◌||◌, List, [], ◌∷◌, ◌++◌, length, eqb}
use Rattle.std.proofs.Common.{sym, ap, ◌∙◌, arith, eqb-true, eq-eqb}
use Rattle.std.proofs.Math.Bool.{and_assoc, or_assoc}
use Rattle.std.proofs.lemmas.Bool.{not-true}
use Rattle.net_file.specs.Lists.{bit, all, any, count, distinct, eqs}
use Rattle.list_laws.specs.Tests.{both}

-- ---- all and any

module _ {A : Type 0} (f : A → Bool) where
  pub all_append : (xs ys : List A) → all f (xs ++ ys) ≡ (all f xs && all f ys)
  all_append [] ys = refl
  all_append (x ∷ xs) ys = ap (λ t. f x && t) (all_append xs ys) ∙ sym (and_assoc (f x) (all f xs) (all f ys))

  pub any_append : (xs ys : List A) → any f (xs ++ ys) ≡ (any f xs || any f ys)
  any_append [] ys = refl
  any_append (x ∷ xs) ys = ap (λ t. f x || t) (any_append xs ys) ∙ sym (or_assoc (f x) (any f xs) (any f ys))

  -- ---- how many pass

  pub count_none : (xs : List A) → any f xs ≡ false → count f xs ≡ 0
  count_none [] e = refl
  count_none (x ∷ xs) e = go (f x) e (count_none xs)
    where
      go : (t : Bool) → (t || any f xs) ≡ false → (any f xs ≡ false → count f xs ≡ 0) → bit t + count f xs ≡ 0
      go true q k = let z : ◌≡◌ {A = ℕ} 0 1 = cc in absurd (omega arith)
      go false q k = omega (arith, k q)

  pub count_both : (xs : List A) → count f xs + count (λ x. not (f x)) xs ≡ length xs
  count_both [] = refl
  count_both (x ∷ xs) = go (f x) (count_both xs)
    where
      go : (t : Bool) → count f xs + count (λ y. not (f y)) xs ≡ length xs → bit t + count f xs + (bit (not t) + count (λ y. not (f y)) xs) ≡ suc (length xs)
      go true k = omega arith
      go false k = omega arith

-- where all differ, an element is there once at most
module _ {A : Type 0} (same : A → A → Bool) (is : (x y : A) → same x y ≡ true → x ≡ y) (x : A) where
  pub count_once : (ys : List A) → distinct same ys ≡ true → count (same x) ys ≤ 1
  count_once [] e = omega arith
  count_once (y ∷ ys) e =
      let h = both (not (any (same y) ys)) (distinct same ys) e in
      go (same x y) refl h.0 (count_once ys h.1)
    where
      go : (t : Bool) → same x y ≡ t → not (any (same y) ys) ≡ true → count (same x) ys ≤ 1 → bit t + count (same x) ys ≤ 1
      go true q n k = let z : count (same x) ys ≡ 0 = count_none (same x) ys (rw (is x y q) (not-true _ n)) in omega arith
      go false q n k = omega arith

-- ---- lists of numbers

pub eqs_true : (xs ys : List ℕ) → eqs xs ys ≡ true → xs ≡ ys
eqs_true [] [] e = refl
eqs_true [] (y ∷ ys) e = let z : ◌≡◌ {A = ℕ} 0 1 = cc in absurd (omega arith)
eqs_true (x ∷ xs) [] e = let z : ◌≡◌ {A = ℕ} 0 1 = cc in absurd (omega arith)
eqs_true (x ∷ xs) (y ∷ ys) e =
    let h = both (eqb x y) (eqs xs ys) e in
    rw (eqb-true x y h.0, eqs_true xs ys h.1)

eqs_self : (xs : List ℕ) → eqs xs xs ≡ true
eqs_self [] = refl
eqs_self (x ∷ xs) = rw (eq-eqb x x refl, eqs_self xs)

pub eqs_eq : (xs ys : List ℕ) → xs ≡ ys → eqs xs ys ≡ true
eqs_eq xs ys e = rw e (eqs_self ys)
