-- What an association list gives after a removal and after an insertion.
use Rattle.std.specs.Prelude.{ℕ, suc, ◌<◌, ◌≤◌, Bool, length, eqb}
use Rattle.std.proofs.Math.Path.{◌≡◌, refl, ap}
use Rattle.std.proofs.Common.{sym, ◌∙◌, eq-eqb, ne_eqb}
use Rattle.std.proofs.Math.Bool.{true, false}
use Rattle.std.proofs.Math.Option.{Option, none, some}
use mathlib.Core.List.{List, [], ◌∷◌, ◌++◌}
use native.Mathlib.Omega.{arith}
use Rattle.std.proofs.Math.Decide.{ℕ_discrete}
use Rattle.conversions.specs.Links.{get, remove, insert}

module _ {A : Type 0} where
  pub get_here : (e : ℕ × A) (es : List (ℕ × A)) (a : ℕ) → e.0 ≡ a → get (e ∷ es) a ≡ some e.1
  unfolding get
  get_here e es a h = ap {B = Option A} (λ (t : Bool). elim t [ true ↦ some e.1 | false ↦ get es a ]) (eq-eqb e.0 a h)

  pub get_there : (e : ℕ × A) (es : List (ℕ × A)) (a : ℕ) → (e.0 ≡ a → ⊥) → get (e ∷ es) a ≡ get es a
  unfolding get
  get_there e es a h = ap {B = Option A} (λ (t : Bool). elim t [ true ↦ some e.1 | false ↦ get es a ]) (ne_eqb e.0 a h)

  pub remove_here : (e : ℕ × A) (es : List (ℕ × A)) (a : ℕ) → e.0 ≡ a → remove (e ∷ es) a ≡ remove es a
  unfolding remove
  remove_here e es a h = ap {B = List (ℕ × A)} (λ (t : Bool). elim t [ true ↦ remove es a | false ↦ e ∷ remove es a ]) (eq-eqb e.0 a h)

  pub remove_there : (e : ℕ × A) (es : List (ℕ × A)) (a : ℕ) → (e.0 ≡ a → ⊥) → remove (e ∷ es) a ≡ e ∷ remove es a
  unfolding remove
  remove_there e es a h = ap {B = List (ℕ × A)} (λ (t : Bool). elim t [ true ↦ remove es a | false ↦ e ∷ remove es a ]) (ne_eqb e.0 a h)

  pub get_removed : (es : List (ℕ × A)) (a : ℕ) → get (remove es a) a ≡ none
  unfolding get remove
  get_removed [] a = refl
  get_removed (e ∷ es) a = elim (ℕ_discrete e.0 a) [
    | yes h ↦ rw (remove_here e es a h) (get_removed es a)
    | no h ↦ rw (remove_there e es a h, get_there e (remove es a) a h) (get_removed es a)
  ]

  pub get_kept : (es : List (ℕ × A)) (a w : ℕ) → (w ≡ a → ⊥) → get (remove es a) w ≡ get es w
  unfolding get remove
  get_kept [] a w n = refl
  get_kept (e ∷ es) a w n = elim (ℕ_discrete e.0 a) [
    | yes h ↦ rw (remove_here e es a h, get_there e es w (λ g. n (sym g ∙ h))) (get_kept es a w n)
    | no h ↦ rw (remove_there e es a h) (elim (ℕ_discrete e.0 w) [
      | yes g ↦ rw (get_here e (remove es a) w g, get_here e es w g)
      | no g ↦ rw (get_there e (remove es a) w g, get_there e es w g) (get_kept es a w n)
    ])
  ]

  -- one more at the end
  get_last : (es : List (ℕ × A)) (a : ℕ) (x : A) → get es a ≡ none → get (es ++ ((a, x) ∷ [])) a ≡ some x
  get_last [] a x h = get_here (a, x) [] a refl
  get_last (e ∷ es) a x h = elim (ℕ_discrete e.0 a) [
    | yes g ↦ let z : ◌≡◌ {A = ℕ} 0 1 = ap (λ o. number o) (sym h ∙ get_here e es a g) in absurd (omega arith)
    | no g ↦ rw (get_there e (es ++ ((a, x) ∷ [])) a g) (get_last es a x (sym (get_there e es a g) ∙ h))
  ]
    where
      number : Option A → ℕ
      number none = 0
      number (some y) = 1

  pub get_before : (es : List (ℕ × A)) (a w : ℕ) (x : A) → (w ≡ a → ⊥) → get (es ++ ((a, x) ∷ [])) w ≡ get es w
  unfolding get
  get_before [] a w x n = get_there (a, x) [] w (λ h. n (sym h))
  get_before (e ∷ es) a w x n = elim (ℕ_discrete e.0 w) [
    | yes g ↦ rw (get_here e (es ++ ((a, x) ∷ [])) w g, get_here e es w g)
    | no g ↦ rw (get_there e (es ++ ((a, x) ∷ [])) w g, get_there e es w g) (get_before es a w x n)
  ]

  pub get_inserted : (es : List (ℕ × A)) (a : ℕ) (x : A) → get (insert es a x) a ≡ some x
  unfolding insert
  get_inserted es a x = get_last (remove es a) a x (get_removed es a)

  pub get_beside : (es : List (ℕ × A)) (a w : ℕ) (x : A) → (w ≡ a → ⊥) → get (insert es a x) w ≡ get es w
  unfolding insert
  get_beside es a w x n = get_before (remove es a) a w x n ∙ get_kept es a w n

  -- a removal leaves no more, and less where something was there
  pub remove_most : (es : List (ℕ × A)) (a : ℕ) → length (remove es a) ≤ length es
  unfolding remove
  remove_most [] a = omega arith
  remove_most (e ∷ es) a = elim (ℕ_discrete e.0 a) [
    | yes h ↦ rw (remove_here e es a h) (omega (arith, remove_most es a))
    | no h ↦ rw (remove_there e es a h) (omega (arith, remove_most es a))
  ]

  pub remove_less : (es : List (ℕ × A)) (a : ℕ) (x : A) → get es a ≡ some x → length (remove es a) < length es
  unfolding get
  remove_less [] a x h = let z : ◌≡◌ {A = ℕ} 0 1 = cc in absurd (omega arith)
  remove_less (e ∷ es) a x h = elim (ℕ_discrete e.0 a) [
    | yes g ↦ rw (remove_here e es a g) (omega (arith, remove_most es a))
    | no g ↦ rw (remove_there e es a g) (omega (arith, remove_less es a x (sym (get_there e es a g) ∙ h)))
  ]
