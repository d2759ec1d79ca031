-- Lists made from a row of numbers: what is in them, what a test of all of them says, and a node's aux ports as a row.
use Rattle.std.specs.Prelude.{◌≡◌, refl, ◌⊎◌, ℕ, zero, suc, ◌+◌, ◌-◌, ◌<◌, ◌≤◌, Bool, true, false, ◌&&◌, drop}
use Rattle.std.proofs.Common.{sym, ap, ◌∙◌, subst, inl, inr, arith}
use Rattle.std.proofs.Math.Decide.{ℕ_discrete}
use Rattle.std.proofs.Math.Option.{Option, none, some, some-injective}
use mathlib.Core.List.Memᴰ
use mathlib.Core.List.{List, [], ◌∷◌, ◌++◌, map, Memᴰ}
use Rattle.list_laws.specs.Tests.{both}
use Rattle.net_file.specs.Lists.{all}
use Rattle.definitions.specs.Lists.{find, concat, from, up_to}
use Rattle.definitions.specs.Nets.{Port, Graph, port, arity, ports, aux}

module _ {A : Type 0} (h : ℕ → A) where
  -- what is in a row is one of it
  pub mem_row : (n k : ℕ) (x : A) → Memᴰ x (map h (from k n)) → (i : ℕ) × (k ≤ i) × (i < k + n) × (x ≡ h i)
  mem_row zero k x m = absurd (Memᴰ.not-nil m)
  mem_row (suc n) k x m = go (Memᴰ.cases_cons m) (mem_row n (suc k) x)
    where
      go : (x ≡ h k) ⊎ Memᴰ x (map h (from (suc k) n)) → (Memᴰ x (map h (from (suc k) n)) → (i : ℕ) × (suc k ≤ i) × (i < suc k + n) × (x ≡ h i))
          → (i : ℕ) × (k ≤ i) × (i < k + suc n) × (x ≡ h i)
      go (inl e) r = (k, omega arith, omega arith, e)
      go (inr t) r = let y = r t in (y.0, (let z = y.1 in omega arith), (let z = y.2 in omega arith), y.3)

  -- one of a row is in it
  pub row_mem : (n k i : ℕ) → k ≤ i → i < k + n → Memᴰ (h i) (map h (from k n))
  row_mem zero k i l u = absurd (omega arith)
  row_mem (suc n) k i l u = go (ℕ_discrete i k) (row_mem n (suc k) i)
    where
      go : Dec (i ≡ k) → (suc k ≤ i → i < suc k + n → Memᴰ (h i) (map h (from (suc k) n))) → Memᴰ (h i) (h k ∷ map h (from (suc k) n))
      go (yes e) r = Memᴰ.head (ap h e)
      go (no e) r = Memᴰ.tail (r (omega arith) (omega arith))

  -- a test that all pass
  pub all_row : (f : A → Bool) (n k : ℕ) → all f (map h (from k n)) ≡ true → (i : ℕ) → k ≤ i → i < k + n → f (h i) ≡ true
  all_row f zero k e i l u = absurd (omega arith)
  all_row f (suc n) k e i l u =
      let b = both (f (h k)) (all f (map h (from (suc k) n))) e in
      go (ℕ_discrete i k) b.0 (all_row f n (suc k) b.1 i)
    where
      go : Dec (i ≡ k) → f (h k) ≡ true → (suc k ≤ i → i < suc k + n → f (h i) ≡ true) → f (h i) ≡ true
      go (yes s) x r = ap (λ (t : ℕ). f (h t)) s ∙ x
      go (no s) x r = r (omega arith) (omega arith)

  -- the first that passes is one of the row
  pub find_row : (f : A → Bool) (n k : ℕ) (x : A) → find f (map h (from k n)) ≡ some x → (i : ℕ) × (k ≤ i) × (i < k + n) × (x ≡ h i) × (f x ≡ true)
  find_row f zero k x e = let z : ◌≡◌ {A = ℕ} 0 1 = cc in absurd (omega arith)
  find_row f (suc n) k x e = go (f (h k)) refl e (find_row f n (suc k) x)
    where
      go : (t : Bool) → f (h k) ≡ t → elim t as (λ _. Option A) [ true ↦ some (h k) | false ↦ find f (map h (from (suc k) n)) ] ≡ some x
          → (find f (map h (from (suc k) n)) ≡ some x → (i : ℕ) × (suc k ≤ i) × (i < suc k + n) × (x ≡ h i) × (f x ≡ true))
          → (i : ℕ) × (k ≤ i) × (i < k + suc n) × (x ≡ h i) × (f x ≡ true)
      go true s q r = let y : h k ≡ x = some-injective (h k) x q in (k, omega arith, omega arith, sym y, ap f (sym y) ∙ s)
      go false s q r = let y = r q in (y.0, (let z = y.1 in omega arith), (let z = y.2 in omega arith), y.3, y.4)

-- what is in the lists of a row, one after the other
module _ {A : Type 0} (h : ℕ → List A) where
  pub mem_rows : (n k : ℕ) (x : A) → Memᴰ x (concat (map h (from k n))) → (i : ℕ) × (k ≤ i) × (i < k + n) × Memᴰ x (h i)
  mem_rows zero k x m = absurd (Memᴰ.not-nil m)
  mem_rows (suc n) k x m = go (Memᴰ.append_cases (h k) m) (mem_rows n (suc k) x)
    where
      go : Memᴰ x (h k) ⊎ Memᴰ x (concat (map h (from (suc k) n))) → (Memᴰ x (concat (map h (from (suc k) n))) → (i : ℕ) × (suc k ≤ i) × (i < suc k + n) × Memᴰ x (h i))
          → (i : ℕ) × (k ≤ i) × (i < k + suc n) × Memᴰ x (h i)
      go (inl e) r = (k, omega arith, omega arith, e)
      go (inr t) r = let y = r t in (y.0, (let z = y.1 in omega arith), (let z = y.2 in omega arith), y.3)

  pub rows_mem : (n k i : ℕ) (x : A) → k ≤ i → i < k + n → Memᴰ x (h i) → Memᴰ x (concat (map h (from k n)))
  rows_mem zero k i x l u m = absurd (omega arith)
  rows_mem (suc n) k i x l u m = go (ℕ_discrete i k) (rows_mem n (suc k) i x)
    where
      go : Dec (i ≡ k) → (suc k ≤ i → i < suc k + n → Memᴰ x (h i) → Memᴰ x (concat (map h (from (suc k) n)))) → Memᴰ x (h k ++ concat (map h (from (suc k) n)))
      go (yes e) r = Memᴰ.append_left (concat (map h (from (suc k) n))) (subst (λ (t : ℕ). Memᴰ x (h t)) e m)
      go (no e) r = Memᴰ.append_right (h k) (r (omega arith) (omega arith) m)

pub map_map : {A B C : Type 0} (f : B → C) (h : A → B) (xs : List A) → map f (map h xs) ≡ map (λ x. f (h x)) xs
map_map f h [] = refl
map_map f h (x ∷ xs) = ap (λ l. f (h x) ∷ l) (map_map f h xs)

-- ---- aux ports

pub from_next : {A : Type 0} (h : ℕ → A) (n k : ℕ) → map h (from (suc k) n) ≡ map (λ i. h (1 + i)) (from k n)
from_next h zero k = refl
from_next h (suc n) k = ap (λ (i : ℕ). h i ∷ map h (from (suc (suc k)) n)) (let z : suc k ≡ 1 + k = omega arith in z) ∙ ap (λ l. h (1 + k) ∷ l) (from_next h n (suc k))

pub aux_row : (g : Graph) (a : ℕ) → aux g a ≡ map (λ i. port a (1 + i)) (up_to (arity g a - 1))
unfolding aux ports
aux_row g a = go (arity g a)
  where
    go : (n : ℕ) → drop 1 (map (port a) (up_to n)) ≡ map (λ i. port a (1 + i)) (up_to (n - 1))
    go zero = refl
    go (suc n) = from_next (port a) n 0 ∙ ap (λ (t : ℕ). map (λ i. port a (1 + i)) (up_to t)) (let z : n ≡ suc n - 1 = omega arith in z)
