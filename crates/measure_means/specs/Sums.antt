-- Sums over numbers below N: by number, and in the order of a list that has each once.
use Rattle.std.specs.Prelude.{ℕ, zero, suc, ◌+◌, ◌≤◌, ◌<◌, ◌≡◌, refl, ◌≢◌, ◌⊎◌, Bool, true, false, cond}
use Rattle.std.proofs.Common.{sym, ap, ◌∙◌, inl, inr, not-suc-le-zero, arith, true≢false}
use Rattle.std.proofs.Math.Decide.{ℕ_discrete}
use mathlib.Core.List.Memᴰ
use mathlib.Core.List.{List, [], ◌∷◌, map, Memᴰ}
use Rattle.net_file.specs.Lists.{sum}
use Rattle.dirty_laws.specs.Tally.{off, off_same, off_other, off_true}
use Rattle.tighten_means.specs.Sieve.{sieve}

-- of the numbers below N
abbrev pub total : (ℕ → ℕ) → ℕ → ℕ
total f zero = 0
total f (suc n) = f n + total f n

-- of those that pass
abbrev pub only : (ℕ → Bool) → (ℕ → ℕ) → ℕ → ℕ
only b f n = cond (b n) (f n) 0

pub total_same : (f g : ℕ → ℕ) (N : ℕ) → ((n : ℕ) → n < N → f n ≡ g n) → total f N ≡ total g N
total_same f g zero h = refl
total_same f g (suc N) h = let a = h N (omega arith) in let b = total_same f g N (λ n i. h n (omega arith)) in omega arith

pub total_none : (f : ℕ → ℕ) (N : ℕ) → ((n : ℕ) → n < N → f n ≡ 0) → total f N ≡ 0
total_none f zero h = refl
total_none f (suc N) h = let a = h N (omega arith) in let b = total_none f N (λ n i. h n (omega arith)) in omega arith

total_plus : (f g : ℕ → ℕ) (N : ℕ) → total (λ n. f n + g n) N ≡ total f N + total g N
total_plus f g zero = refl
total_plus f g (suc N) = let a = total_plus f g N in omega arith

-- either way round
pub total_swap : (F : ℕ → ℕ → ℕ) (K N : ℕ) → total (λ n. total (λ k. F k n) K) N ≡ total (λ k. total (F k) N) K
total_swap F zero N = total_none (λ n. 0) N (λ n i. refl)
total_swap F (suc K) N = let a = total_plus (F K) (λ n. total (λ k. F k n) K) N in let b = total_swap F K N in omega arith

-- nothing from U on
pub total_past : (f : ℕ → ℕ) (U N : ℕ) → U ≤ N → ((n : ℕ) → U ≤ n → n < N → f n ≡ 0) → total f N ≡ total f U
total_past f U zero h z = let e : U ≡ 0 = omega arith in rw e
total_past f U (suc N) h z = go (ℕ_discrete U (suc N)) (λ i. total_past f U N i (λ n a b. z n a (omega arith)))
  where
    go : Dec (U ≡ suc N) → (U ≤ N → total f N ≡ total f U) → f N + total f N ≡ total f U
    go (yes e) r = rw e
    go (no e) r = let a = z N (omega arith) (omega arith) in let b = r (omega arith) in omega arith

-- one alone
pub total_one : (f : ℕ → ℕ) (j K : ℕ) → j < K → ((k : ℕ) → k < K → k ≢ j → f k ≡ 0) → total f K ≡ f j
total_one f j zero h z = absurd (not-suc-le-zero h)
total_one f j (suc K) h z = go (ℕ_discrete K j) (λ i. total_one f j K i (λ k a b. z k (omega arith) b))
  where
    go : Dec (K ≡ j) → (j < K → total f K ≡ f j) → f K + total f K ≡ f j
    go (yes e) r = let a = total_none f K (λ n i. z n (omega arith) (omega arith)) in rw (a, e) (omega arith)
    go (no e) r = let a = z K (omega arith) e in let b = r (omega arith) in omega arith

module _ (f : ℕ → ℕ) where
  only_yes : (b : ℕ → Bool) (n : ℕ) → b n ≡ true → only b f n ≡ f n
  only_yes b n e = ap (λ (t : Bool). cond t (f n) 0) e

  pub only_no : (b : ℕ → Bool) (n : ℕ) → b n ≡ false → only b f n ≡ 0
  only_no b n e = ap (λ (t : Bool). cond t (f n) 0) e

  only_off : (b : ℕ → Bool) (x n : ℕ) → n ≢ x → only (off b x) f n ≡ only b f n
  only_off b x n d = ap (λ (t : Bool). cond t (f n) 0) (off_other b x n d)

  -- with one switched off
  total_off : (b : ℕ → Bool) (x N : ℕ) → x < N → b x ≡ true → total (only b f) N ≡ f x + total (only (off b x) f) N
  total_off b x zero h e = absurd (not-suc-le-zero h)
  total_off b x (suc N) h e = go (ℕ_discrete N x) (λ i. total_off b x N i e)
    where
      go : Dec (N ≡ x) → (x < N → total (only b f) N ≡ f x + total (only (off b x) f) N)
          → only b f N + total (only b f) N ≡ f x + (only (off b x) f N + total (only (off b x) f) N)
      go (yes d) r =
          let a = total_same (only b f) (only (off b x) f) N (λ n i. sym (only_off b x n (omega arith))) in
          let p : only b f N ≡ f x = rw d (only_yes b x e) in
          let q : only (off b x) f N ≡ 0 = rw d (only_no (off b x) x (off_same b x)) in
          omega arith
      go (no d) r = let a = only_off b x N d in let c = r (omega arith) in omega arith

  -- those that pass, each once, are all that pass
  pub sum_sieve : (l : List ℕ) (b : ℕ → Bool) (N : ℕ) → ((n : ℕ) → Memᴰ n l → n < N) → ((n : ℕ) → n < N → b n ≡ true → Memᴰ n l)
      → sum (map f (sieve b l)) ≡ total (only b f) N
  sum_sieve [] b N low there = sym (total_none (only b f) N (λ n i. only_no b n (never n i (b n) refl)))
    where
      never : (n : ℕ) → n < N → (t : Bool) → b n ≡ t → t ≡ false
      never n i true e = absurd (Memᴰ.not-nil (there n i e))
      never n i false e = refl
  sum_sieve (x ∷ l) b N low there = go (b x) refl (sum_sieve l (off b x) N (λ n m. low n (Memᴰ.tail m))) (sum_sieve l b N (λ n m. low n (Memᴰ.tail m)))
    where
      later : (n : ℕ) → n ≢ x → (n ≡ x) ⊎ Memᴰ n l → Memᴰ n l
      later n d (inl e) = absurd (d e)
      later n d (inr m) = m

      go : (t : Bool) → b x ≡ t → (((n : ℕ) → n < N → off b x n ≡ true → Memᴰ n l) → sum (map f (sieve (off b x) l)) ≡ total (only (off b x) f) N)
          → (((n : ℕ) → n < N → b n ≡ true → Memᴰ n l) → sum (map f (sieve b l)) ≡ total (only b f) N)
          → sum (map f (elim t as (λ _. List ℕ) [ true ↦ x ∷ sieve (off b x) l | false ↦ sieve b l ])) ≡ total (only b f) N
      go true e r s =
          let a = r (λ n i o. let q = off_true b x n o in later n q.1 (Memᴰ.cases_cons (there n i q.0))) in
          let c = total_off b x N (low x (Memᴰ.head refl)) e in
          omega arith
      go false e r s = s (λ n i o. later n (λ d. true≢false (sym o ∙ ap b d ∙ e)) (Memᴰ.cases_cons (there n i o)))
