-- Tests of lists: what they find, and how many pass.
use Rattle.std.specs.Prelude.{◌≡◌, refl, ◌≢◌, ◌⊎◌, ℕ, ◌+◌, Bool, true, false, eqb}
use Rattle.std.proofs.Common.{sym, ap, ◌∙◌, inl, inr, arith, eqb-true}
use Rattle.std.proofs.Math.Option.{Option, none, some}
use mathlib.Core.List.Memᴰ
use mathlib.Core.List.{List, [], ◌∷◌, map, Memᴰ}
use Rattle.list_laws.specs.Tests.{both}
use Rattle.net_file.specs.Lists.{bit, all, count}
use Rattle.definitions.specs.Lists.{find}

-- ---- tests and lists

pub eqb_no : (m n : ℕ) → m ≢ n → eqb m n ≡ false
eqb_no m n h = go (eqb m n) refl
  where
    go : (t : Bool) → eqb m n ≡ t → eqb m n ≡ false
    go true e = absurd (h (eqb-true m n e))
    go false e = e

pub all_mem : {A : Type 0} (f : A → Bool) (xs : List A) (x : A) → all f xs ≡ true → Memᴰ x xs → f x ≡ true
all_mem f [] x e m = absurd (Memᴰ.not-nil m)
all_mem f (y ∷ ys) x e m = let h = both (f y) (all f ys) e in go h.0 (Memᴰ.cases_cons m) (all_mem f ys x h.1)
  where
    go : f y ≡ true → (x ≡ y) ⊎ Memᴰ x ys → (Memᴰ x ys → f x ≡ true) → f x ≡ true
    go k (inl s) r = ap f s ∙ k
    go k (inr q) r = r q

-- a test of a list finds one, or none
pub any_found : {A : Type 0} (f : A → Bool) (xs : List A) → ((x : A) × Memᴰ x xs × (f x ≡ true)) ⊎ ((x : A) → Memᴰ x xs → f x ≡ false)
any_found f [] = inr (λ x m. absurd (Memᴰ.not-nil m))
any_found {A} f (y ∷ ys) = go (f y) refl (any_found f ys)
  where
    go : (t : Bool) → f y ≡ t → ((x : A) × Memᴰ x ys × (f x ≡ true)) ⊎ ((x : A) → Memᴰ x ys → f x ≡ false)
        → ((x : A) × Memᴰ x (y ∷ ys) × (f x ≡ true)) ⊎ ((x : A) → Memᴰ x (y ∷ ys) → f x ≡ false)
    go true e r = inl (y, Memᴰ.head refl, e)
    go false e (inl r) = inl (r.0, Memᴰ.tail r.1, r.2)
    go false e (inr r) = inr (λ x m. via x (Memᴰ.cases_cons m))
      where
        via : (x : A) → (x ≡ y) ⊎ Memᴰ x ys → f x ≡ false
        via x (inl s) = ap f s ∙ e
        via x (inr q) = r x q

pub find_mem : {A : Type 0} (f : A → Bool) (xs : List A) (x : A) → find f xs ≡ some x → Memᴰ x xs × (f x ≡ true)
find_mem f [] x e = let z : ◌≡◌ {A = ℕ} 0 1 = cc in absurd (omega arith)
find_mem {A} f (y ∷ ys) x e = go (f y) refl e (find_mem f ys x)
  where
    go : (t : Bool) → f y ≡ t → elim t as (λ _. Option A) [ true ↦ some y | false ↦ find f ys ] ≡ some x → (find f ys ≡ some x → Memᴰ x ys × (f x ≡ true)) → Memᴰ x (y ∷ ys) × (f x ≡ true)
    go true s q r = let z : x ≡ y = cc in (Memᴰ.head z, ap f z ∙ s)
    go false s q r = let z = r q in (Memᴰ.tail z.0, z.1)

pub find_none : {A : Type 0} (f : A → Bool) (xs : List A) → find f xs ≡ none → (x : A) → Memᴰ x xs → f x ≡ false
find_none f [] e x m = absurd (Memᴰ.not-nil m)
find_none {A} f (y ∷ ys) e x m = go (f y) refl e (Memᴰ.cases_cons m) (λ q. find_none f ys q x)
  where
    go : (t : Bool) → f y ≡ t → ◌≡◌ {A = Option A} (elim t as (λ _. Option A) [ true ↦ some y | false ↦ find f ys ]) none → (x ≡ y) ⊎ Memᴰ x ys → (find f ys ≡ none → Memᴰ x ys → f x ≡ false) → f x ≡ false
    go true s q k r = let z : ◌≡◌ {A = ℕ} 0 1 = cc in absurd (omega arith)
    go false s q (inl k) r = ap f k ∙ s
    go false s q (inr k) r = r q k

pub find_all_none : {A : Type 0} (f : A → Bool) (xs : List A) → ((x : A) → Memᴰ x xs → f x ≡ false) → find f xs ≡ none
find_all_none f [] h = refl
find_all_none {A} f (y ∷ ys) h = ap (λ (t : Bool). elim t as (λ _. Option A) [ true ↦ some y | false ↦ find f ys ]) (h y (Memᴰ.head refl)) ∙ find_all_none f ys (λ x m. h x (Memᴰ.tail m))

-- ---- how many

pub count_same : {A : Type 0} (f h : A → Bool) (xs : List A) → ((x : A) → f x ≡ h x) → count f xs ≡ count h xs
count_same f h [] e = refl
count_same f h (x ∷ xs) e = ap (λ (t : Bool). bit t + count f xs) (e x) ∙ ap (λ (n : ℕ). bit (h x) + n) (count_same f h xs e)

pub count_none : {A : Type 0} (f : A → Bool) (xs : List A) → ((x : A) → Memᴰ x xs → f x ≡ false) → count f xs ≡ 0
count_none f [] e = refl
count_none f (x ∷ xs) e = ap (λ (t : Bool). bit t + count f xs) (e x (Memᴰ.head refl)) ∙ (let z = count_none f xs (λ y m. e y (Memᴰ.tail m)) in omega arith)

pub count_two : {A : Type 0} (f h k : A → Bool) (xs : List A) → ((x : A) → bit (f x) ≡ bit (h x) + bit (k x)) → count f xs ≡ count h xs + count k xs
count_two f h k [] e = refl
count_two f h k (x ∷ xs) e = let y = e x in let z = count_two f h k xs e in omega arith

pub count_map : {A B : Type 0} (f : B → Bool) (h : A → B) (xs : List A) → count f (map h xs) ≡ count (λ x. f (h x)) xs
count_map f h [] = refl
count_map f h (x ∷ xs) = ap (λ (n : ℕ). bit (f (h x)) + n) (count_map f h xs)
