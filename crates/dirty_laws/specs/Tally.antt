-- How many numbers below N pass a test.
use Rattle.std.specs.Prelude.{ℕ, zero, suc, ◌+◌, ◌≤◌, ◌<◌, ◌≡◌, refl, ◌≢◌, Bool, true, false, ◌||◌, eqb}
use Rattle.std.proofs.Common.{sym, ap, not-suc-le-zero, arith, ne_eqb}
use Rattle.std.proofs.Math.Decide.{ℕ_discrete}
use Rattle.std.proofs.lemmas.Bool.{false≢true, eqb-false}
use Rattle.net_file.specs.Lists.{bit}
use Rattle.dirty_laws.specs.Tests.{bit_most, eqb_self}

abbrev pub tally : (ℕ → Bool) → ℕ → ℕ
tally f zero = 0
tally f (suc n) = bit (f n) + tally f n

pub tally_most : (f : ℕ → Bool) (N : ℕ) → tally f N ≤ N
tally_most f zero = omega arith
tally_most f (suc n) = let h = tally_most f n in let b = bit_most (f n) in omega arith

pub tally_same : (f g : ℕ → Bool) (N : ℕ) → ((i : ℕ) → i < N → f i ≡ g i) → tally f N ≡ tally g N
tally_same f g zero h = refl
tally_same f g (suc n) h =
    let e = tally_same f g n (λ i l. h i (omega arith)) in
    let d : bit (f n) ≡ bit (g n) = ap bit (h n (omega arith)) in
    omega arith

pub tally_none : (f : ℕ → Bool) (N : ℕ) → ((i : ℕ) → i < N → f i ≡ false) → tally f N ≡ 0
tally_none f zero h = refl
tally_none f (suc n) h =
    let e = tally_none f n (λ i l. h i (omega arith)) in
    let d : bit (f n) ≡ 0 = ap bit (h n (omega arith)) in
    omega arith

-- two tests that differ at n only
pub tally_at : (f g : ℕ → Bool) (n N : ℕ) → n < N → ((i : ℕ) → i ≢ n → g i ≡ f i) → tally g N + bit (f n) ≡ tally f N + bit (g n)
tally_at f g n zero l h = absurd (not-suc-le-zero l)
tally_at f g n (suc N) l h = go (ℕ_discrete n N) (λ k. tally_at f g n N k h)
  where
    go : Dec (n ≡ N) → (n < N → tally g N + bit (f n) ≡ tally f N + bit (g n)) → bit (g N) + tally g N + bit (f n) ≡ bit (f N) + tally f N + bit (g n)
    go (yes e) ih =
        let a : bit (g N) ≡ bit (g n) = ap (λ (k : ℕ). bit (g k)) (sym e) in
        let b : bit (f N) ≡ bit (f n) = ap (λ (k : ℕ). bit (f k)) (sym e) in
        let c = tally_same g f N (λ i k. h i (λ s. omega arith)) in
        omega arith
    go (no d) ih =
        let a : bit (g N) ≡ bit (f N) = ap bit (h N (λ s. d (sym s))) in
        let k : n < N = omega arith in
        let c = ih k in
        omega arith

module _ (f g : ℕ → Bool) where
  pub tally_either : (N : ℕ) → tally (λ i. f i || g i) N ≤ tally f N + tally g N
  tally_either zero = omega arith
  tally_either (suc n) = let h = tally_either n in let b = most (f n) (g n) in omega arith
    where
      most : (a b : Bool) → bit (a || b) ≤ bit a + bit b
      most true b = omega arith
      most false b = omega arith

  pub tally_mono : (N : ℕ) → ((i : ℕ) → f i ≡ true → g i ≡ true) → tally f N ≤ tally g N
  tally_mono zero h = omega arith
  tally_mono (suc n) h = let k = tally_mono n h in let b = most (f n) (g n) (h n) in omega arith
    where
      most : (a b : Bool) → (a ≡ true → b ≡ true) → bit a ≤ bit b
      most true b k = let e : bit b ≡ 1 = ap bit (k refl) in omega arith
      most false b k = omega arith

-- ---- a test switched off at x

abbrev pub off : (ℕ → Bool) → ℕ → ℕ → Bool
off f x n = elim (eqb n x) [ true ↦ false | false ↦ f n ]

pub off_same : (f : ℕ → Bool) (x : ℕ) → off f x x ≡ false
off_same f x = ap (λ (t : Bool). elim t as (λ _. Bool) [ true ↦ false | false ↦ f x ]) (eqb_self x)

pub off_other : (f : ℕ → Bool) (x n : ℕ) → n ≢ x → off f x n ≡ f n
off_other f x n d = ap (λ (t : Bool). elim t as (λ _. Bool) [ true ↦ false | false ↦ f n ]) (ne_eqb n x d)

pub off_true : (f : ℕ → Bool) (x n : ℕ) → off f x n ≡ true → (f n ≡ true) × (n ≢ x)
off_true f x n = go (eqb n x) refl
  where
    go : (t : Bool) → eqb n x ≡ t → elim t as (λ _. Bool) [ true ↦ false | false ↦ f n ] ≡ true → (f n ≡ true) × (n ≢ x)
    go true e h = absurd (false≢true h)
    go false e h = (h, eqb-false n x e)

-- it was on
pub tally_off : (f : ℕ → Bool) (x N : ℕ) → x < N → f x ≡ true → tally f N ≡ suc (tally (off f x) N)
tally_off f x N l h =
    let e = tally_at f (off f x) x N l (λ i d. off_other f x i d) in
    let a : bit (f x) ≡ 1 = ap bit h in
    let b : bit (off f x x) ≡ 0 = ap bit (off_same f x) in
    omega arith

-- it may have been
pub tally_off_most : (f : ℕ → Bool) (x N : ℕ) → tally f N ≤ suc (tally (off f x) N)
tally_off_most f x zero = omega arith
tally_off_most f x (suc n) = go (ℕ_discrete n x) (tally_off_most f x n)
  where
    go : Dec (n ≡ x) → tally f n ≤ suc (tally (off f x) n) → bit (f n) + tally f n ≤ suc (bit (off f x n) + tally (off f x) n)
    go (yes e) ih =
        let b = bit_most (f n) in
        let c = tally_same f (off f x) n (λ i l. sym (off_other f x i (λ s. omega arith))) in
        omega arith
    go (no d) ih = let a : bit (off f x n) ≡ bit (f n) = ap bit (off_other f x n d) in omega arith
