-- Of a list that has every live number, each live number's first place: as many as are live.
use Rattle.std.specs.Prelude.{ℕ, suc, ◌≤◌, ◌<◌, ◌≡◌, refl, ◌≢◌, ◌⊎◌, Bool, true, false, length, eqb}
use Rattle.std.proofs.Common.{sym, ap, ◌∙◌, inl, inr, arith, true≢false}
use Rattle.std.proofs.Math.Decide.{ℕ_discrete}
use mathlib.Core.List.Memᴰ
use mathlib.Core.List.{List, [], ◌∷◌, Memᴰ}
use Rattle.net_file.specs.Lists.{any}
use Rattle.definitions.specs.Lists.{keep, firsts}
use Rattle.dirty_laws.specs.Tests.{any_true, any_false}
use Rattle.dirty_laws.specs.Tally.{tally, tally_none, off, off_true, off_other, tally_off, tally_off_most}

-- no more are live than a list holds that has them all
pub holds_all : (xs : List ℕ) (live : ℕ → Bool) (N : ℕ) → ((n : ℕ) → live n ≡ true → Memᴰ n xs) → tally live N ≤ length xs
holds_all [] live N h = let e = tally_none live N (λ i l. dead i (live i) refl) in omega arith
  where
    dead : (i : ℕ) (t : Bool) → live i ≡ t → live i ≡ false
    dead i true e = absurd (Memᴰ.not-nil (h i e))
    dead i false e = e
holds_all (x ∷ xs) live N h = let k = holds_all xs (off live x) N rest in let l = tally_off_most live x N in omega arith
  where
    rest : (n : ℕ) → off live x n ≡ true → Memᴰ n xs
    rest n m = let r = off_true live x n m in go (Memᴰ.cases_cons (h n r.0)) r.1
      where
        go : (n ≡ x) ⊎ Memᴰ n xs → n ≢ x → Memᴰ n xs
        go (inl e) d = absurd (d e)
        go (inr t) d = t

pub keep_mem : (f : ℕ → Bool) (xs : List ℕ) (n : ℕ) → f n ≡ true → Memᴰ n xs → Memᴰ n (keep f xs)
keep_mem f [] n h m = absurd (Memᴰ.not-nil m)
keep_mem f (x ∷ xs) n h m = go (f x) refl (Memᴰ.cases_cons m) (λ k. keep_mem f xs n h k)
  where
    go : (t : Bool) → f x ≡ t → (n ≡ x) ⊎ Memᴰ n xs → (Memᴰ n xs → Memᴰ n (keep f xs))
        → Memᴰ n (elim t as (λ _. List ℕ) [ true ↦ x ∷ keep f xs | false ↦ keep f xs ])
    go true e (inl s) k = Memᴰ.head s
    go true e (inr t) k = Memᴰ.tail (k t)
    go false e (inl s) k = absurd (true≢false (sym h ∙ ap f s ∙ e))
    go false e (inr t) k = k t

pub keep_true : (f : ℕ → Bool) (xs : List ℕ) (n : ℕ) → Memᴰ n (keep f xs) → f n ≡ true
keep_true f [] n m = absurd (Memᴰ.not-nil m)
keep_true f (x ∷ xs) n m = go (f x) refl m (λ k. keep_true f xs n k)
  where
    go : (t : Bool) → f x ≡ t → Memᴰ n (elim t as (λ _. List ℕ) [ true ↦ x ∷ keep f xs | false ↦ keep f xs ])
        → (Memᴰ n (keep f xs) → f n ≡ true) → f n ≡ true
    go true e k r = case (Memᴰ.cases_cons k)
      where
        case : (n ≡ x) ⊎ Memᴰ n (keep f xs) → f n ≡ true
        case (inl s) = ap f s ∙ e
        case (inr t) = r t
    go false e k r = r k

-- ---- each live number at its first place only

-- the live numbers, none of them seen before, are in xs, and nothing else is but what was seen
record First (xs seen : List ℕ) (live : ℕ → Bool) : Type 0 where
  there : (n : ℕ) → live n ≡ true → Memᴰ n xs
  only : (n : ℕ) → Memᴰ n xs → (live n ≡ true) ⊎ Memᴰ n seen
  unseen : (n : ℕ) → live n ≡ true → Memᴰ n seen → ⊥

module _ (x : ℕ) (xs seen : List ℕ) (live : ℕ → Bool) (h : First (x ∷ xs) seen live) where
  -- x was seen before
  first_old : Memᴰ x seen → First xs seen live
  first_old s = record { there = λ n m. go n m (Memᴰ.cases_cons (h.there n m)); only = λ n m. h.only n (Memᴰ.tail m); unseen = h.unseen }
    where
      go : (n : ℕ) → live n ≡ true → (n ≡ x) ⊎ Memᴰ n xs → Memᴰ n xs
      go n m (inl e) = absurd (h.unseen x (ap live (sym e) ∙ m) s)
      go n m (inr t) = t

  -- x is met for the first time
  first_new : First xs (x ∷ seen) (off live x)
  first_new = record { there = λ n m. there' n (off_true live x n m); only = only'; unseen = λ n m s. unseen' n (off_true live x n m) (Memᴰ.cases_cons s) }
    where
      there' : (n : ℕ) → (live n ≡ true) × (n ≢ x) → Memᴰ n xs
      there' n r = go (Memᴰ.cases_cons (h.there n r.0))
        where
          go : (n ≡ x) ⊎ Memᴰ n xs → Memᴰ n xs
          go (inl e) = absurd (r.1 e)
          go (inr t) = t

      only' : (n : ℕ) → Memᴰ n xs → (off live x n ≡ true) ⊎ Memᴰ n (x ∷ seen)
      only' n m = go (ℕ_discrete n x) (h.only n (Memᴰ.tail m))
        where
          go : Dec (n ≡ x) → (live n ≡ true) ⊎ Memᴰ n seen → (off live x n ≡ true) ⊎ Memᴰ n (x ∷ seen)
          go (yes e) d = inr (Memᴰ.head e)
          go (no e) (inl t) = inl (off_other live x n e ∙ t)
          go (no e) (inr t) = inr (Memᴰ.tail t)

      unseen' : (n : ℕ) → (live n ≡ true) × (n ≢ x) → (n ≡ x) ⊎ Memᴰ n seen → ⊥
      unseen' n r (inl e) = r.1 e
      unseen' n r (inr t) = h.unseen n r.0 t

firsts_count : (xs seen : List ℕ) (live : ℕ → Bool) (N : ℕ) → ((n : ℕ) → live n ≡ true → n < N) → First xs seen live
    → length (firsts eqb seen xs) ≡ tally live N
firsts_count [] seen live N w h = sym (tally_none live N (λ i l. dead i (live i) refl))
  where
    dead : (i : ℕ) (t : Bool) → live i ≡ t → live i ≡ false
    dead i true e = absurd (Memᴰ.not-nil (h.there i e))
    dead i false e = e
firsts_count (x ∷ xs) seen live N w h = go (any (eqb x) seen) refl (λ s' l' w' h'. firsts_count xs s' l' N w' h')
  where
    go : (t : Bool) → any (eqb x) seen ≡ t
        → ((s' : List ℕ) (l' : ℕ → Bool) → ((n : ℕ) → l' n ≡ true → n < N) → First xs s' l' → length (firsts eqb s' xs) ≡ tally l' N)
        → length {A = ℕ} (elim t as (λ _. List ℕ) [ true ↦ firsts eqb seen xs | false ↦ x ∷ firsts eqb (x ∷ seen) xs ]) ≡ tally live N
    go true e ih = ih seen live w (first_old x xs seen live h (any_true x seen e))
    go false e ih =
        let m = mark (h.only x (Memᴰ.head refl)) in
        ap suc (ih (x ∷ seen) (off live x) (λ n k. w n (off_true live x n k).0) (first_new x xs seen live h)) ∙ sym (tally_off live x N (w x m) m)
      where
        mark : (live x ≡ true) ⊎ Memᴰ x seen → live x ≡ true
        mark (inl m) = m
        mark (inr s) = absurd (any_false x seen e s)

pub firsts_mem : (xs seen : List ℕ) (n : ℕ) → Memᴰ n xs → (Memᴰ n seen → ⊥) → Memᴰ n (firsts eqb seen xs)
firsts_mem [] seen n m u = absurd (Memᴰ.not-nil m)
firsts_mem (x ∷ xs) seen n m u = go (any (eqb x) seen) refl (Memᴰ.cases_cons m) (ℕ_discrete n x) (λ s' k u'. firsts_mem xs s' n k u')
  where
    go : (t : Bool) → any (eqb x) seen ≡ t → (n ≡ x) ⊎ Memᴰ n xs → Dec (n ≡ x)
        → ((s' : List ℕ) → Memᴰ n xs → (Memᴰ n s' → ⊥) → Memᴰ n (firsts eqb s' xs))
        → Memᴰ n (elim t as (λ _. List ℕ) [ true ↦ firsts eqb seen xs | false ↦ x ∷ firsts eqb (x ∷ seen) xs ])
    go true e (inl s) d ih = absurd (u (Memᴰ.cast s (any_true x seen e)))
    go true e (inr k) d ih = ih seen k u
    go false e c (yes s) ih = Memᴰ.head s
    go false e (inl s) (no d) ih = absurd (d s)
    go false e (inr k) (no d) ih = Memᴰ.tail (ih (x ∷ seen) k (λ z. both (Memᴰ.cases_cons z)))
      where
        both : (n ≡ x) ⊎ Memᴰ n seen → ⊥
        both (inl s) = d s
        both (inr t) = u t

keep_shorter : (f : ℕ → Bool) (xs : List ℕ) → length (keep f xs) ≤ length xs
keep_shorter f [] = omega arith
keep_shorter f (x ∷ xs) = go (f x) (keep_shorter f xs)
  where
    go : (t : Bool) → length (keep f xs) ≤ length xs → length {A = ℕ} (elim t as (λ _. List ℕ) [ true ↦ x ∷ keep f xs | false ↦ keep f xs ]) ≤ suc (length xs)
    go true h = omega arith
    go false h = omega arith

firsts_shorter : (xs seen : List ℕ) → length (firsts eqb seen xs) ≤ length xs
firsts_shorter [] seen = omega arith
firsts_shorter (x ∷ xs) seen = go (any (eqb x) seen) (firsts_shorter xs seen) (firsts_shorter xs (x ∷ seen))
  where
    go : (t : Bool) → length (firsts eqb seen xs) ≤ length xs → length (firsts eqb (x ∷ seen) xs) ≤ length xs
        → length {A = ℕ} (elim t as (λ _. List ℕ) [ true ↦ firsts eqb seen xs | false ↦ x ∷ firsts eqb (x ∷ seen) xs ]) ≤ suc (length xs)
    go true h k = omega arith
    go false h k = omega arith

-- tightening makes no list longer
pub tight_shorter : (f : ℕ → Bool) (xs : List ℕ) → length (firsts eqb [] (keep f xs)) ≤ length xs
tight_shorter f xs = let a = firsts_shorter (keep f xs) [] in let b = keep_shorter f xs in omega arith

-- what tightening leaves of a list that has every live number
pub tight_count : (xs : List ℕ) (live : ℕ → Bool) (N : ℕ) → ((n : ℕ) → live n ≡ true → n < N) → ((n : ℕ) → live n ≡ true → Memᴰ n xs)
    → length (firsts eqb [] (keep live xs)) ≡ tally live N
tight_count xs live N w h = firsts_count (keep live xs) [] live N w (record {
  there = λ n m. keep_mem live xs n m (h n m);
  only = λ n m. inl (keep_true live xs n m);
  unseen = λ n m s. Memᴰ.not-nil s;
})
