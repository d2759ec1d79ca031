-- Registered both ways: the pair of which the first path stands first in the first list comes first.
use Rattle.std.specs.Prelude.{ℕ, refl, Bool}
use Rattle.std.proofs.Math.Path.{◌≡◌, ap}
use Rattle.std.proofs.Common.{sym, ◌∙◌, arith, eq-eqb, ne_eqb}
use Rattle.std.proofs.Math.Bool.{true, false}
use Rattle.std.proofs.Math.Option.{some}
use mathlib.Core.List.{List, [], ◌∷◌, ◌++◌}
use Rattle.std.proofs.Math.Decide.{ℕ_discrete}
use Rattle.net_file.specs.Lists.{concat_map}
use Rattle.definitions.specs.Lists.{has as listed}
use Rattle.definitions.specs.Step.{cross}
use Rattle.words.specs.Choose.{eq_yes, eq_no}
use Rattle.interactions.specs.Interactions.{first_of_words}
use Rattle.tries_laws.specs.Order.{first_of, neither_is, straight_first, flipped_first}
use Rattle.tries_laws.specs.Pairs.{told, row, cross_cons, row_straight, row_flipped}

first_append : (xs ys : List Bool) (b : Bool) → first_of xs ≡ some b → first_of (xs ++ ys) ≡ some b
first_append [] ys b e = let z : ◌≡◌ {A = ℕ} 0 1 = cc in absurd (omega arith)
first_append (x ∷ xs) ys b e = e

module _ (x y : ℕ) (ns : List ℕ) (apart : x ≡ y → ⊥) (hx : listed ns x ≡ true) (hy : listed ns y ≡ true) where
  -- path a is x, y, or neither
  row_x : (a : ℕ) → a ≡ x → first_of (concat_map (told x y) (row a ns)) ≡ some true
  row_x a e =
      straight_first (concat_map (told x y) (row a ns)) (row_straight x y a ns ∙ rw (eq-eqb x a (sym e), hy))
      (row_flipped x y a ns ∙ rw (ne_eqb x y apart, ne_eqb y a (λ i. apart (sym (i ∙ e)))))

  row_y : (a : ℕ) → a ≡ y → first_of (concat_map (told x y) (row a ns)) ≡ some false
  row_y a e =
      flipped_first (concat_map (told x y) (row a ns)) (row_straight x y a ns ∙ rw (ne_eqb x a (λ i. apart (i ∙ e))))
      (row_flipped x y a ns ∙ rw (ne_eqb x y apart, eq-eqb y a (sym e), hx))

  row_other : (a : ℕ) → (a ≡ x → ⊥) → (a ≡ y → ⊥) → concat_map (told x y) (row a ns) ≡ []
  row_other a n m =
      neither_is (concat_map (told x y) (row a ns)) (row_straight x y a ns ∙ rw (ne_eqb x a (λ i. n (sym i)))) (row_flipped x y a ns ∙ rw (ne_eqb x y apart, ne_eqb y a (λ i. m (sym i))))

  pub cross_first : (es : List ℕ) → listed es x ≡ true → first_of (concat_map (told x y) (cross es ns)) ≡ some (first_of_words x y es)
  unfolding first_of_words
  cross_first [] h = let z : ◌≡◌ {A = ℕ} 0 1 = cc in absurd (omega arith)
  cross_first (a ∷ es) h = ap first_of (cross_cons (told x y) a es ns) ∙ elim (ℕ_discrete a x) [
    | yes i ↦ first_append (concat_map (told x y) (row a ns)) (concat_map (told x y) (cross es ns)) true (row_x a i) ∙ ap some (eq_yes a x true _ i refl)
    | no n ↦ elim (ℕ_discrete a y) [
      | yes j ↦ first_append (concat_map (told x y) (row a ns)) (concat_map (told x y) (cross es ns)) false (row_y a j) ∙ ap some (eq_no a x true _ n (eq_yes a y false _ j refl))
      | no m ↦
          let r : listed es x ≡ true = rw (ne_eqb x a (λ i. n (sym i))) at h in
          rw (row_other a n m) (cross_first es r ∙ ap some (eq_no a x true _ n (eq_no a y false _ m refl)))
    ]
  ]
