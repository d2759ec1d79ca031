-- First places: of a list each element at its first place, and of each element the place where it stands there. The places are met in
-- the order 0, 1, 2 ..
use Rattle.std.specs.Prelude.{ℕ, suc, ◌+◌, ◌≤◌, ◌<◌, ◌≡◌, refl, ◌⊎◌, Bool, true, false, ◌||◌, length, eqb}
use Rattle.std.proofs.Common.{sym, ap, ◌∙◌, inl, inr, arith, true≢false, length-append, eqb-true, eq-eqb}
use mathlib.Core.List.Memᴰ
use mathlib.Core.List.{List, [], ◌∷◌, ◌++◌, map, append_assoc, Memᴰ}
use Rattle.list_laws.specs.Tests.{either}
use Rattle.list_laws.specs.Lists.{any_append}
use Rattle.net_file.specs.Lists.{any}
use Rattle.definitions.specs.Lists.{place, firsts, from}

-- `same` tells whether two elements are one
module _ {A : Type 0} (same : A → A → Bool) (is : (x y : A) → same x y ≡ true → x ≡ y) (self : (x : A) → same x x ≡ true) where
  -- ---- in a list

  pub in_any : (x : A) (ys : List A) → Memᴰ x ys → any (same x) ys ≡ true
  in_any x [] m = absurd (Memᴰ.not-nil m)
  in_any x (y ∷ ys) m = go (Memᴰ.cases_cons m) (in_any x ys)
    where
      ors : (t : Bool) → any (same x) ys ≡ true → (t || any (same x) ys) ≡ true
      ors true e = refl
      ors false e = e

      go : (x ≡ y) ⊎ Memᴰ x ys → (Memᴰ x ys → any (same x) ys ≡ true) → (same x y || any (same x) ys) ≡ true
      go (inl e) r = ap (λ (t : Bool). t || any (same x) ys) (ap (same x) (sym e) ∙ self x)
      go (inr k) r = ors (same x y) (r k)

  pub any_in : (x : A) (ys : List A) → any (same x) ys ≡ true → Memᴰ x ys
  any_in x [] e = absurd (true≢false (sym e))
  any_in x (y ∷ ys) e = go (either (same x y) (any (same x) ys) e) (any_in x ys)
    where
      go : (same x y ≡ true) ⊎ (any (same x) ys ≡ true) → (any (same x) ys ≡ true → Memᴰ x ys) → Memᴰ x (y ∷ ys)
      go (inl s) r = Memᴰ.head (is x y s)
      go (inr k) r = Memᴰ.tail (r k)

  -- ---- places

  pub place_below : (x : A) (ys : List A) → any (same x) ys ≡ true → place (same x) ys < length ys
  place_below x [] e = absurd (true≢false (sym e))
  place_below x (y ∷ ys) e = go (same x y) e (place_below x ys)
    where
      go : (t : Bool) → (t || any (same x) ys) ≡ true → (any (same x) ys ≡ true → place (same x) ys < length ys) → elim t as (λ _. ℕ) [ true ↦ 0 | false ↦ suc (place (same x) ys) ] < suc (length ys)
      go true q r = omega arith
      go false q r = let z = r q in omega arith

  -- elements of one place are one
  pub place_one : (x y : A) (zs : List A) → any (same x) zs ≡ true → any (same y) zs ≡ true → place (same x) zs ≡ place (same y) zs → x ≡ y
  place_one x y [] e d s = absurd (true≢false (sym e))
  place_one x y (z ∷ zs) e d s = go (same x z) refl (same y z) refl e d s (place_one x y zs)
    where
      go : (a : Bool) → same x z ≡ a → (b : Bool) → same y z ≡ b → (a || any (same x) zs) ≡ true → (b || any (same y) zs) ≡ true
          → ◌≡◌ {A = ℕ} (elim a as (λ _. ℕ) [ true ↦ 0 | false ↦ suc (place (same x) zs) ]) (elim b as (λ _. ℕ) [ true ↦ 0 | false ↦ suc (place (same y) zs) ])
          → (any (same x) zs ≡ true → any (same y) zs ≡ true → place (same x) zs ≡ place (same y) zs → x ≡ y) → x ≡ y
      go true p true q u v w r = is x z p ∙ sym (is y z q)
      go true p false q u v w r = absurd (omega arith)
      go false p true q u v w r = absurd (omega arith)
      go false p false q u v w r = r u v (omega arith)

  -- a new element stands where the others end
  place_new : (x : A) (d rest : List A) → any (same x) d ≡ false → place (same x) (d ++ x ∷ rest) ≡ length d
  place_new x [] rest e = ap (λ (t : Bool). elim t as (λ _. ℕ) [ true ↦ 0 | false ↦ suc (place (same x) rest) ]) (self x)
  place_new x (y ∷ d) rest e = go (same x y) e (place_new x d rest)
    where
      go : (t : Bool) → (t || any (same x) d) ≡ false → (any (same x) d ≡ false → place (same x) (d ++ x ∷ rest) ≡ length d)
          → elim t as (λ _. ℕ) [ true ↦ 0 | false ↦ suc (place (same x) (d ++ x ∷ rest)) ] ≡ suc (length d)
      go true q r = absurd (true≢false q)
      go false q r = ap suc (r q)

  -- ---- first places

  pub firsts_shorter : (xs seen : List A) → length (firsts same seen xs) ≤ length xs
  firsts_shorter [] seen = omega arith
  firsts_shorter (x ∷ xs) seen = go (any (same x) seen) (firsts_shorter xs seen) (firsts_shorter xs (x ∷ seen))
    where
      go : (t : Bool) → length (firsts same seen xs) ≤ length xs → length (firsts same (x ∷ seen) xs) ≤ length xs
          → length {A = A} (elim t as (λ _. List A) [ true ↦ firsts same seen xs | false ↦ x ∷ firsts same (x ∷ seen) xs ]) ≤ suc (length xs)
      go true h k = omega arith
      go false h k = omega arith

  -- none is lost
  pub firsts_all : (xs seen : List A) (x : A) → Memᴰ x xs → any (same x) seen ≡ false → any (same x) (firsts same seen xs) ≡ true
  firsts_all [] seen x m u = absurd (Memᴰ.not-nil m)
  firsts_all (y ∷ ys) seen x m u = go (any (same y) seen) refl (same x y) refl (Memᴰ.cases_cons m) (λ s k v. firsts_all ys s x k v)
    where
      go : (t : Bool) → any (same y) seen ≡ t → (b : Bool) → same x y ≡ b → (x ≡ y) ⊎ Memᴰ x ys → ((s : List A) → Memᴰ x ys → any (same x) s ≡ false → any (same x) (firsts same s ys) ≡ true)
          → any (same x) (elim t as (λ _. List A) [ true ↦ firsts same seen ys | false ↦ y ∷ firsts same (y ∷ seen) ys ]) ≡ true
      go true e b f (inl s) r = absurd (true≢false (sym e ∙ ap (λ (z : A). any (same z) seen) (sym s) ∙ u))
      go true e b f (inr k) r = r seen k u
      go false e true f c r = ap (λ (t : Bool). t || any (same x) (firsts same (y ∷ seen) ys)) f
      go false e false f (inl s) r = absurd (true≢false (sym (ap (same x) (sym s) ∙ self x) ∙ f))
      go false e false f (inr k) r =
          ap (λ (t : Bool). t || any (same x) (firsts same (y ∷ seen) ys)) f ∙ r (y ∷ seen) k (ap (λ (t : Bool). t || any (same x) seen) f ∙ u)

  -- ---- the order in which places are met

  module _ (met : List A) where
    -- its number
    abbrev number : A → ℕ
    number x = place (same x) met

    any_number : (x : A) (seen : List A) → any (eqb (number x)) (map number seen) ≡ true → any (same x) met ≡ true → ((y : A) → Memᴰ y seen → any (same y) met ≡ true) → any (same x) seen ≡ true
    any_number x [] e h k = absurd (true≢false (sym e))
    any_number x (y ∷ seen) e h k = go (either (eqb (number x) (number y)) (any (eqb (number x)) (map number seen)) e) (λ q. any_number x seen q h (λ z m. k z (Memᴰ.tail m)))
      where
        ors : (t : Bool) → any (same x) seen ≡ true → (t || any (same x) seen) ≡ true
        ors true q = refl
        ors false q = q

        go : (eqb (number x) (number y) ≡ true) ⊎ (any (eqb (number x)) (map number seen) ≡ true) → (any (eqb (number x)) (map number seen) ≡ true → any (same x) seen ≡ true) → (same x y || any (same x) seen) ≡ true
        go (inl q) r =
            let s : x ≡ y = place_one x y met h (k y (Memᴰ.head refl)) (eqb-true (number x) (number y) q) in
            ap (λ (t : Bool). t || any (same x) seen) (ap (same x) (sym s) ∙ self x)
        go (inr q) r = ors (same x y) (r q)

    number_any : (x : A) (seen : List A) → any (same x) seen ≡ true → any (eqb (number x)) (map number seen) ≡ true
    number_any x [] e = absurd (true≢false (sym e))
    number_any x (y ∷ seen) e = go (either (same x y) (any (same x) seen) e) (number_any x seen)
      where
        ors : (t : Bool) → any (eqb (number x)) (map number seen) ≡ true → (t || any (eqb (number x)) (map number seen)) ≡ true
        ors true q = refl
        ors false q = q

        go : (same x y ≡ true) ⊎ (any (same x) seen ≡ true) → (any (same x) seen ≡ true → any (eqb (number x)) (map number seen) ≡ true) → (eqb (number x) (number y) || any (eqb (number x)) (map number seen)) ≡ true
        go (inl q) r = ap (λ (t : Bool). t || any (eqb (number x)) (map number seen)) (eq-eqb (number x) (number y) (ap number (is x y q)))
        go (inr q) r = ors (eqb (number x) (number y)) (r q)

    -- d has been met, the elements `seen`; the others of xs follow in order
    in_order : (xs seen d : List A) → met ≡ d ++ firsts same seen xs → ((y : A) → any (same y) seen ≡ any (same y) d)
        → firsts eqb (map number seen) (map number xs) ≡ from (length d) (length (firsts same seen xs))
    in_order [] seen d split alike = refl
    in_order (x ∷ xs) seen d split alike = go (any (same x) seen) refl split (in_order xs)
      where
        inside : (rest : List A) → met ≡ d ++ rest → (y : A) → Memᴰ y seen → any (same y) met ≡ true
        inside rest s y m =
            ap (any (same y)) s ∙ any_append (same y) d rest ∙ ap (λ (t : Bool). t || any (same y) rest) (sym (alike y) ∙ in_any y seen m)

        new_in : (rest : List A) → met ≡ d ++ x ∷ rest → any (same x) met ≡ true
        new_in rest s = ap (any (same x)) s ∙ any_append (same x) d (x ∷ rest) ∙ ap (λ (t : Bool). any (same x) d || (t || any (same x) rest)) (self x) ∙ or_true (any (same x) d)
          where
            or_true : (t : Bool) → (t || true) ≡ true
            or_true true = refl
            or_true false = refl

        swap : (a b : Bool) → (a || b) ≡ (b || (a || false))
        swap true true = refl
        swap true false = refl
        swap false true = refl
        swap false false = refl

        go : (t : Bool) → any (same x) seen ≡ t → met ≡ d ++ elim t as (λ _. List A) [ true ↦ firsts same seen xs | false ↦ x ∷ firsts same (x ∷ seen) xs ]
            → ((seen' d' : List A) → met ≡ d' ++ firsts same seen' xs → ((y : A) → any (same y) seen' ≡ any (same y) d') → firsts eqb (map number seen') (map number xs) ≡ from (length d') (length (firsts same seen' xs)))
            → elim (any (eqb (number x)) (map number seen)) as (λ _. List ℕ) [ true ↦ firsts eqb (map number seen) (map number xs) | false ↦ number x ∷ firsts eqb (number x ∷ map number seen) (map number xs) ]
            ≡ from (length d) (length {A = A} (elim t as (λ _. List A) [ true ↦ firsts same seen xs | false ↦ x ∷ firsts same (x ∷ seen) xs ]))
        go true e s r =
            ap (λ (t : Bool). elim t as (λ _. List ℕ) [ true ↦ firsts eqb (map number seen) (map number xs) | false ↦ number x ∷ firsts eqb (number x ∷ map number seen) (map number xs) ]) (number_any x seen e)
            ∙ r seen d s alike
        go false e s r =
            let rest = firsts same (x ∷ seen) xs in
            let new : any (eqb (number x)) (map number seen) ≡ false = never (any (eqb (number x)) (map number seen)) refl in
            let at : number x ≡ length d = ap (place (same x)) s ∙ place_new x d rest (sym (alike x) ∙ e) in
            let next = r (x ∷ seen) (d ++ x ∷ []) (s ∙ sym (append_assoc d (x ∷ []) rest)) (λ y. ap (λ (t : Bool). same y x || t) (alike y) ∙ swap (same y x) (any (same y) d) ∙ sym (any_append (same y) d (x ∷ []))) in
            let long : length (d ++ x ∷ []) ≡ suc (length d) = length-append d (x ∷ []) ∙ (let z : length d + 1 ≡ suc (length d) = omega arith in z) in
            ap (λ (t : Bool). elim t as (λ _. List ℕ) [ true ↦ firsts eqb (map number seen) (map number xs) | false ↦ number x ∷ firsts eqb (number x ∷ map number seen) (map number xs) ]) new
            ∙ (λ i. at i ∷ (next ∙ ap (λ (n : ℕ). from n (length rest)) long) i)
          where
            never : (t : Bool) → any (eqb (number x)) (map number seen) ≡ t → any (eqb (number x)) (map number seen) ≡ false
            never true q = absurd (true≢false (sym (any_number x seen q (new_in (firsts same (x ∷ seen) xs) s) (inside (x ∷ firsts same (x ∷ seen) xs) s)) ∙ e))
            never false q = q

  -- numbers at first meeting are 0, 1, 2 ..
  pub met_in_order : (xs : List A) → firsts eqb [] (map (λ x. place (same x) (firsts same [] xs)) xs) ≡ from 0 (length (firsts same [] xs))
  met_in_order xs = in_order (firsts same [] xs) xs [] [] refl (λ y. refl)
