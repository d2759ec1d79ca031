-- What is in a list, and what the tests over lists say of it.
use Rattle.std.specs.Prelude.{ℕ, ◌+◌, ◌<◌, ◌≤◌, ◌≡◌, refl, Bool, true, false, not, ◌&&◌, ◌||◌, ◌⊎◌}
use Rattle.std.proofs.Common.{sym, ap}
use Rattle.std.proofs.Math.Bool.{or-true}
use Rattle.std.proofs.Math.Logic.{inl, inr}
use mathlib.Core.List.{List, [], ◌∷◌, ◌++◌}
use native.Mathlib.Omega.{arith}
use Rattle.std.proofs.Math.Decide.{ℕ_discrete, dec_lt}
use Rattle.std.proofs.Math.Dec.{eqb}
use borrow.Author.Tests.{eqb-true, eq-eqb, ne_eqb, not-true}
use Rattle.net_file.specs.Lists.{all, any, count, distinct}
use Rattle.list_laws.specs.Tests.{both, both_are, either}
use Rattle.list_laws.specs.Lists.{count_once}
use Rattle.net_file.specs.Checks.{pair_wires, occurs}

-- ---- lists

module _ {A : Type 0} where
  abbrev pub In : A → List A → Type 0
  In x [] = ⊥
  In x (y ∷ ys) = (x ≡ y) ⊎ In x ys

  pub all_in : (f : A → Bool) (x : A) (xs : List A) → all f xs ≡ true → In x xs → f x ≡ true
  all_in f x [] e i = absurd i
  all_in f x (y ∷ ys) e (inl h) = rw h (both (f y) (all f ys) e).0
  all_in f x (y ∷ ys) e (inr h) = all_in f x ys (both (f y) (all f ys) e).1 h

  pub in_all : (f : A → Bool) (xs : List A) → ((x : A) → In x xs → f x ≡ true) → all f xs ≡ true
  in_all f [] h = refl
  in_all f (x ∷ xs) h = both_are (f x) (all f xs) (h x (inl refl)) (in_all f xs (λ y i. h y (inr i)))

-- ---- how often a wire occurs

module _ (w : ℕ) where
  pub in_occurs : (ws : List ℕ) → In w ws → 0 < occurs w ws
  unfolding occurs
  in_occurs [] i = absurd i
  in_occurs (v ∷ vs) (inl e) = rw (eq-eqb w v e) (omega arith)
  in_occurs (v ∷ vs) (inr i) = let h = in_occurs vs i in omega arith

  pub occurs_in : (ws : List ℕ) → 0 < occurs w ws → In w ws
  unfolding occurs
  occurs_in [] h = absurd (omega arith)
  occurs_in (v ∷ vs) h = elim (ℕ_discrete w v) [
    | yes e ↦ inl e
    | no n ↦ inr (occurs_in vs (let h' = rw (ne_eqb w v n) at h in omega arith))
  ]

  pub occurs_append : (xs ys : List ℕ) → occurs w (xs ++ ys) ≡ occurs w xs + occurs w ys
  unfolding occurs
  occurs_append [] ys = omega arith
  occurs_append (x ∷ xs) ys = let h = occurs_append xs ys in omega arith

  pub any_in : (ws : List ℕ) → any (eqb w) ws ≡ true → In w ws
  any_in [] e = let z : ◌≡◌ {A = ℕ} 0 1 = cc in absurd (omega arith)
  any_in (v ∷ vs) e = elim (either (eqb w v) (any (eqb w) vs) e) [ inl h ↦ inl (eqb-true w v h) | inr h ↦ inr (any_in vs h) ]

  pub in_any : (ws : List ℕ) → In w ws → any (eqb w) ws ≡ true
  in_any [] i = absurd i
  in_any (v ∷ vs) (inl e) = rw (eq-eqb w v e)
  in_any (v ∷ vs) (inr i) = rw (in_any vs i, or-true)

  -- where all differ, a wire is there once at most
  pub occurs_once : (ws : List ℕ) → distinct eqb ws ≡ true → occurs w ws ≤ 1
  unfolding occurs
  occurs_once ws e = count_once eqb eqb-true w ws e

-- ---- the wires of pairs

pub in_pair : (p : ℕ × ℕ) (ps : List (ℕ × ℕ)) → In p ps → In p.0 (pair_wires ps) × In p.1 (pair_wires ps)
unfolding pair_wires
in_pair p [] i = absurd i
in_pair p (q ∷ qs) (inl e) = (inl (ap (λ x. x.0) e), inr (inl (ap (λ x. x.1) e)))
in_pair p (q ∷ qs) (inr i) = let h = in_pair p qs i in (inr (inr h.0), inr (inr h.1))

pub pair_in : (w : ℕ) (ps : List (ℕ × ℕ)) → In w (pair_wires ps) → (p : ℕ × ℕ) × In p ps × ((w ≡ p.0) ⊎ (w ≡ p.1))
unfolding pair_wires
pair_in w [] i = absurd i
pair_in w (q ∷ qs) (inl e) = (q, inl refl, inl e)
pair_in w (q ∷ qs) (inr (inl e)) = (q, inl refl, inr e)
pair_in w (q ∷ qs) (inr (inr i)) = let h = pair_in w qs i in (h.0, inr h.1, h.2)
