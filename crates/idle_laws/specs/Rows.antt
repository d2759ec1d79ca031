-- Equal names, and tests over rows of numbers: what all pass, and the first that passes.
use Rattle.std.specs.Prelude.{ℕ, zero, suc, ◌+◌, ◌<◌, ◌≤◌, ◌≡◌, refl, Bool, true, false, ◌&&◌, map, eqb}
use Rattle.std.proofs.Common.{sym, ap, ◌∙◌, arith, true≢false, eqb-true, eq-eqb}
use Rattle.std.proofs.Math.Decide.{ℕ_discrete}
use Rattle.std.proofs.Math.Option.{Option, none, some, some-injective}
use Rattle.list_laws.specs.Tests.{both, both_are}
use Rattle.list_laws.specs.Lists.{eqs_true, eqs_eq}
use Rattle.net_file.specs.Lists.{all, eqs}
use Rattle.net_file.specs.Values.{Name}
use Rattle.net_file.specs.Checks.{same_name}
use Rattle.definitions.specs.Lists.{find, from}

-- ---- names

pub name_is : (m n : Name) → same_name m n ≡ true → m ≡ n
unfolding same_name
name_is m n e =
    let x = both (eqb m.path n.path && eqb m.payload n.payload) (eqs m.children n.children) e in
    let y = both (eqb m.path n.path) (eqb m.payload n.payload) x.0 in
    let p : m.path ≡ n.path = eqb-true m.path n.path y.0 in
    let q : m.payload ≡ n.payload = eqb-true m.payload n.payload y.1 in
    let c : m.children ≡ n.children = eqs_true m.children n.children x.1 in
    λ i. record { path = p i; payload = q i; children = c i }

pub is_name : (m n : Name) → m ≡ n → same_name m n ≡ true
unfolding same_name
is_name m n e =
    both_are (eqb m.path n.path && eqb m.payload n.payload) (eqs m.children n.children)
    (both_are (eqb m.path n.path) (eqb m.payload n.payload) (eq-eqb m.path n.path (ap (λ (x : Name). x.path) e)) (eq-eqb m.payload n.payload (ap (λ (x : Name). x.payload) e)))
    (eqs_eq m.children n.children (ap (λ (x : Name). x.children) e))

-- ---- rows

module _ {A : Type 0} (h : ℕ → A) (f : A → Bool) where
  pub row_all : (n k : ℕ) → ((i : ℕ) → k ≤ i → i < k + n → f (h i) ≡ true) → all f (map h (from k n)) ≡ true
  row_all zero k e = refl
  row_all (suc n) k e = both_are (f (h k)) (all f (map h (from (suc k) n))) (e k (omega arith) (omega arith)) (row_all n (suc k) (λ i l u. e i (omega arith) (omega arith)))

  -- none before k passes, and k does
  pub row_find : (n k i : ℕ) → k ≤ i → i < k + n → f (h i) ≡ true → ((j : ℕ) → k ≤ j → j < i → f (h j) ≡ false) → find f (map h (from k n)) ≡ some (h i)
  row_find zero k i l u e b = absurd (omega arith)
  row_find (suc n) k i l u e b = go (λ l' u' b'. row_find n (suc k) i l' u' e b') (ℕ_discrete i k) (f (h k)) refl
    where
      go : (suc k ≤ i → i < suc k + n → ((j : ℕ) → suc k ≤ j → j < i → f (h j) ≡ false) → find f (map h (from (suc k) n)) ≡ some (h i)) → Dec (i ≡ k) → (t : Bool) → f (h k) ≡ t → elim t as (λ _. Option A) [ true ↦ some (h k) | false ↦ find f (map h (from (suc k) n)) ] ≡ some (h i)
      go r (yes q) true s = ap (λ (j : ℕ). some (h j)) (sym q)
      go r (yes q) false s = absurd (true≢false (sym e ∙ ap (λ (j : ℕ). f (h j)) q ∙ s))
      go r (no q) true s = absurd (true≢false (sym s ∙ b k (omega arith) (omega arith)))
      go r (no q) false s = r (omega arith) (omega arith) (λ j l' u'. b j (omega arith) u')

  pub row_none : (n k : ℕ) → ((j : ℕ) → k ≤ j → j < k + n → f (h j) ≡ false) → ◌≡◌ {A = Option A} (find f (map h (from k n))) none
  row_none zero k b = refl
  row_none (suc n) k b = go (row_none n (suc k) (λ j l u. b j (omega arith) (omega arith))) (f (h k)) (b k (omega arith) (omega arith))
    where
      go : ◌≡◌ {A = Option A} (find f (map h (from (suc k) n))) none → (t : Bool) → t ≡ false → ◌≡◌ {A = Option A} (elim t as (λ _. Option A) [ true ↦ some (h k) | false ↦ find f (map h (from (suc k) n)) ]) none
      go r true s = absurd (true≢false s)
      go r false s = r

  -- the first that passes
  pub first_row : (n k : ℕ) (x : A) → find f (map h (from k n)) ≡ some x → (i : ℕ) × (k ≤ i) × (i < k + n) × (x ≡ h i) × (f (h i) ≡ true) × ((j : ℕ) → k ≤ j → j < i → f (h j) ≡ false)
  first_row zero k x e = absurd (let z : ◌≡◌ {A = ℕ} 0 1 = cc in omega arith)
  first_row (suc n) k x e = go (f (h k)) refl e (λ q. first_row n (suc k) x q)
    where
      go : (t : Bool) → f (h k) ≡ t → elim t as (λ _. Option A) [ true ↦ some (h k) | false ↦ find f (map h (from (suc k) n)) ] ≡ some x
          → (find f (map h (from (suc k) n)) ≡ some x → (i : ℕ) × (suc k ≤ i) × (i < suc k + n) × (x ≡ h i) × (f (h i) ≡ true) × ((j : ℕ) → suc k ≤ j → j < i → f (h j) ≡ false))
          → (i : ℕ) × (k ≤ i) × (i < k + suc n) × (x ≡ h i) × (f (h i) ≡ true) × ((j : ℕ) → k ≤ j → j < i → f (h j) ≡ false)
      go true s q r = (k, omega arith, omega arith, sym (some-injective (h k) x q), s, λ j l u. absurd (omega arith))
      go false s q r =
          let y = r q in
          let l = y.1 in
          let u = y.2 in (y.0, omega arith, omega arith, y.3, y.4, λ j l' u'. before y.5 j l' u' (ℕ_discrete j k))
        where
          before : {i : ℕ} → ((j : ℕ) → suc k ≤ j → j < i → f (h j) ≡ false) → (j : ℕ) → k ≤ j → j < i → Dec (j ≡ k) → f (h j) ≡ false
          before b j l u (yes d) = ap (λ (i : ℕ). f (h i)) d ∙ s
          before b j l u (no d) = b j (omega arith) u

  pub none_row : (n k : ℕ) → ◌≡◌ {A = Option A} (find f (map h (from k n))) none → (j : ℕ) → k ≤ j → j < k + n → f (h j) ≡ false
  none_row zero k e j l u = absurd (omega arith)
  none_row (suc n) k e j l u = go (f (h k)) refl e (λ q. none_row n (suc k) q j) (ℕ_discrete j k)
    where
      go : (t : Bool) → f (h k) ≡ t → ◌≡◌ {A = Option A} (elim t as (λ _. Option A) [ true ↦ some (h k) | false ↦ find f (map h (from (suc k) n)) ]) none
          → (◌≡◌ {A = Option A} (find f (map h (from (suc k) n))) none → suc k ≤ j → j < suc k + n → f (h j) ≡ false) → Dec (j ≡ k) → f (h j) ≡ false
      go true s q r d = absurd (let z : ◌≡◌ {A = ℕ} 0 1 = cc in omega arith)
      go false s q r (yes d) = ap (λ (i : ℕ). f (h i)) d ∙ s
      go false s q r (no d) = r q (omega arith) (omega arith)
