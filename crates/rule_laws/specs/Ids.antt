-- A list of different numbers: its places. The test for a number that a row of new ones has.
use Rattle.std.specs.Prelude.{◌≡◌, refl, ◌≢◌, ◌⊎◌, ℕ, zero, suc, ◌+◌, ◌<◌, ◌≤◌, Bool, true, false, not, ◌&&◌, ◌||◌, length, get_or, eqb}
use Rattle.std.proofs.Common.{sym, ap, ◌∙◌, subst, inl, inr, arith, true≢false, eqb-true, eq-eqb}
use Rattle.std.proofs.Math.Decide.{ℕ_discrete}
use mathlib.Core.List.Memᴰ
use mathlib.Core.List.{List, [], ◌∷◌, ◌++◌, map, Memᴰ}
use Rattle.std.proofs.lemmas.Bool.{not-true}
use Rattle.list_laws.specs.Tests.{both, both_are}
use Rattle.net_file.specs.Lists.{any, distinct}
use Rattle.definitions.specs.Lists.{place, concat, from}
use Rattle.rule_laws.specs.Rows.{mem_row, mem_rows}

-- an element of the list
pub at_mem : (xs : List ℕ) (k : ℕ) → k < length xs → Memᴰ (get_or xs k 0) xs
at_mem [] k l = absurd (omega arith)
at_mem (x ∷ xs) zero l = Memᴰ.head refl
at_mem (x ∷ xs) (suc k) l = Memᴰ.tail (at_mem xs k (omega arith))

-- the place of a number that is there
pub place_at : (n : ℕ) (xs : List ℕ) → Memᴰ n xs → (place (eqb n) xs < length xs) × (get_or xs (place (eqb n) xs) 0 ≡ n)
place_at n [] m = absurd (Memᴰ.not-nil m)
place_at n (x ∷ xs) m = go (eqb n x) refl (Memᴰ.cases_cons m) (place_at n xs)
  where
    go : (t : Bool) → eqb n x ≡ t → (n ≡ x) ⊎ Memᴰ n xs → (Memᴰ n xs → (place (eqb n) xs < length xs) × (get_or xs (place (eqb n) xs) 0 ≡ n))
        → (elim t as (λ _. ℕ) [ true ↦ 0 | false ↦ suc (place (eqb n) xs) ] < suc (length xs)) × (get_or (x ∷ xs) (elim t as (λ _. ℕ) [ true ↦ 0 | false ↦ suc (place (eqb n) xs) ]) 0 ≡ n)
    go true e d r = (omega arith, sym (eqb-true n x e))
    go false e (inl s) r = absurd (true≢false (sym (eq-eqb n x s) ∙ e))
    go false e (inr k) r = let y = r k in (let z = y.0 in omega arith, y.1)

pub any_mem : (n : ℕ) (xs : List ℕ) → Memᴰ n xs → any (eqb n) xs ≡ true
any_mem n [] m = absurd (Memᴰ.not-nil m)
any_mem n (x ∷ xs) m = go (Memᴰ.cases_cons m) (any_mem n xs)
  where
    go : (n ≡ x) ⊎ Memᴰ n xs → (Memᴰ n xs → any (eqb n) xs ≡ true) → any (eqb n) (x ∷ xs) ≡ true
    go (inl e) r = rw (eq-eqb n x e)
    go (inr k) r = via (eqb n x) (r k)
      where
        via : (t : Bool) → any (eqb n) xs ≡ true → (t || any (eqb n) xs) ≡ true
        via true e = refl
        via false e = e

-- different numbers stand at different places
pub distinct_at : (xs : List ℕ) → distinct eqb xs ≡ true → (i j : ℕ) → i < length xs → j < length xs → get_or xs i 0 ≡ get_or xs j 0 → i ≡ j
distinct_at [] d i j l m e = absurd (omega arith)
distinct_at (x ∷ xs) d zero zero l m e = refl
distinct_at (x ∷ xs) d zero (suc j) l m e =
    let h = both (not (any (eqb x) xs)) (distinct eqb xs) d in
    absurd (true≢false (sym (any_mem x xs (subst (λ (n : ℕ). Memᴰ n xs) (sym e) (at_mem xs j (omega arith)))) ∙ not-true (any (eqb x) xs) h.0))
distinct_at (x ∷ xs) d (suc i) zero l m e =
    let h = both (not (any (eqb x) xs)) (distinct eqb xs) d in
    absurd (true≢false (sym (any_mem x xs (subst (λ (n : ℕ). Memᴰ n xs) e (at_mem xs i (omega arith)))) ∙ not-true (any (eqb x) xs) h.0))
distinct_at (x ∷ xs) d (suc i) (suc j) l m e =
    let h = both (not (any (eqb x) xs)) (distinct eqb xs) d in
    ap suc (distinct_at xs h.1 i j (omega arith) (omega arith) e)

-- ---- lists of different numbers

any_not : (n : ℕ) (xs : List ℕ) → ¬ Memᴰ n xs → any (eqb n) xs ≡ false
any_not n [] h = refl
any_not n (x ∷ xs) h = go (eqb n x) refl (any_not n xs (λ m. h (Memᴰ.tail m)))
  where
    go : (t : Bool) → eqb n x ≡ t → any (eqb n) xs ≡ false → (t || any (eqb n) xs) ≡ false
    go true e y = absurd (h (Memᴰ.head (eqb-true n x e)))
    go false e y = y

pub distinct_cons : (n : ℕ) (xs : List ℕ) → ¬ Memᴰ n xs → distinct eqb xs ≡ true → distinct eqb (n ∷ xs) ≡ true
distinct_cons n xs h d = both_are (not (any (eqb n) xs)) (distinct eqb xs) (ap not (any_not n xs h)) d

pub distinct_head : (n : ℕ) (xs : List ℕ) → distinct eqb (n ∷ xs) ≡ true → ¬ Memᴰ n xs
distinct_head n xs d m = true≢false (sym (any_mem n xs m) ∙ not-true (any (eqb n) xs) (both (not (any (eqb n) xs)) (distinct eqb xs) d).0)

pub distinct_two : (a b : ℕ) → a ≢ b → distinct eqb (a ∷ b ∷ []) ≡ true
distinct_two a b h = distinct_cons a (b ∷ []) (λ m. go (Memᴰ.cases_cons m)) (distinct_cons b [] Memᴰ.not-nil refl)
  where
    go : (a ≡ b) ⊎ Memᴰ a [] → ⊥
    go (inl e) = h e
    go (inr m) = Memᴰ.not-nil m

pub distinct_row : (h : ℕ → ℕ) (n k : ℕ) → ((i j : ℕ) → i < k + n → j < k + n → h i ≡ h j → i ≡ j) → distinct eqb (map h (from k n)) ≡ true
distinct_row h zero k f = refl
distinct_row h (suc n) k f =
    distinct_cons (h k) (map h (from (suc k) n))
    (λ m. let y = mem_row h n (suc k) (h k) m in let z = f k y.0 (omega arith) (let q = y.2 in omega arith) y.3 in let q = y.1 in omega arith)
    (distinct_row h n (suc k) (λ i j l m e. f i j (omega arith) (omega arith) e))

distinct_append : (xs ys : List ℕ) → distinct eqb xs ≡ true → distinct eqb ys ≡ true → ((n : ℕ) → Memᴰ n xs → ¬ Memᴰ n ys) → distinct eqb (xs ++ ys) ≡ true
distinct_append [] ys d e h = e
distinct_append (x ∷ xs) ys d e h =
    let b = both (not (any (eqb x) xs)) (distinct eqb xs) d in
    distinct_cons x (xs ++ ys) (λ m. go (Memᴰ.append_cases xs m)) (distinct_append xs ys b.1 e (λ n m. h n (Memᴰ.tail m)))
  where
    go : Memᴰ x xs ⊎ Memᴰ x ys → ⊥
    go (inl m) = distinct_head x xs d m
    go (inr m) = h x (Memᴰ.head refl) m

pub distinct_rows : (h : ℕ → List ℕ) (n k : ℕ) → ((i : ℕ) → i < k + n → distinct eqb (h i) ≡ true)
    → ((i j x : ℕ) → i < k + n → j < k + n → Memᴰ x (h i) → Memᴰ x (h j) → i ≡ j) → distinct eqb (concat (map h (from k n))) ≡ true
distinct_rows h zero k f a = refl
distinct_rows h (suc n) k f a =
    distinct_append (h k) (concat (map h (from (suc k) n))) (f k (omega arith))
    (distinct_rows h n (suc k) (λ i l. f i (omega arith)) (λ i j x l m p q. a i j x (omega arith) (omega arith) p q))
    (λ x m r. let y = mem_rows h n (suc k) x r in let z = a k y.0 x (omega arith) (let q = y.2 in omega arith) m y.3 in let q = y.1 in omega arith)

-- a number is one of the first c of a row, or none of them
pub one_of_row : (f : ℕ → ℕ) (c n : ℕ) → ((k : ℕ) × (k < c) × (n ≡ f k)) ⊎ ((k : ℕ) → k < c → n ≢ f k)
one_of_row f zero n = inr (λ k l. absurd (omega arith))
one_of_row f (suc c) n = go (ℕ_discrete n (f c)) (one_of_row f c n)
  where
    go : Dec (n ≡ f c) → ((k : ℕ) × (k < c) × (n ≡ f k)) ⊎ ((k : ℕ) → k < c → n ≢ f k) → ((k : ℕ) × (k < suc c) × (n ≡ f k)) ⊎ ((k : ℕ) → k < suc c → n ≢ f k)
    go (yes e) r = inl (c, omega arith, e)
    go (no e) (inl r) = inl (r.0, (let z = r.1 in omega arith), r.2)
    go (no e) (inr r) = inr (λ k l. via k l (ℕ_discrete k c))
      where
        via : (k : ℕ) → k < suc c → Dec (k ≡ c) → n ≢ f k
        via k l (yes s) = λ q. e (q ∙ ap f s)
        via k l (no s) = r k (omega arith)
