-- No wire has two trees: then a removal takes one entry away, and an insertion where there is none adds one.
use Prim.Native.Nat.{ℕ, zero, suc, ◌+◌, ◌<◌, ◌≤◌}
use Rattle.std.specs.Prelude.{◌≡◌, length}
use Rattle.std.proofs.Math.Path.{refl, ap}
use Rattle.std.proofs.Common.{sym, ◌∙◌, arith, length-append}
use Rattle.std.proofs.Math.Option.{Option, none, some}
use mathlib.Core.List.{List, [], ◌∷◌, ◌++◌}
use Rattle.std.proofs.Math.Decide.{ℕ_discrete}
use Rattle.conversions.specs.Links.{get, remove, insert}
use Rattle.wire_tables_laws.specs.Get.{get_here, get_there, get_kept, get_before, remove_here, remove_there}

module _ {A : Type 0} where
  unfoldable pub Keys : List (ℕ × A) → Type 0
  Keys [] = Unit {0}
  Keys (e ∷ es) = (get es e.0 ≡ none) × Keys es

  -- something is not nothing
  pub not_none : {x : A} → ◌≡◌ {A = Option A} (some x) none → ⊥
  not_none e = let z : ◌≡◌ {A = ℕ} 0 1 = ap number (sym e) in absurd (omega arith)
    where
      number : Option A → ℕ
      number none = 0
      number (some y) = 1

  pub other_key : (e : ℕ × A) (es : List (ℕ × A)) (a : ℕ) → get (e ∷ es) a ≡ none → e.0 ≡ a → ⊥
  other_key e es a h g = not_none (sym (get_here e es a g) ∙ h)

  pub remove_none : (es : List (ℕ × A)) (a : ℕ) → get es a ≡ none → remove es a ≡ es
  unfolding remove
  remove_none [] a h = refl
  remove_none (e ∷ es) a h =
      let d = other_key e es a h in
      remove_there e es a d ∙ ap {B = List (ℕ × A)} (λ l. e ∷ l) (remove_none es a (sym (get_there e es a d) ∙ h))

  pub remove_one : (es : List (ℕ × A)) (a : ℕ) (x : A) → Keys es → get es a ≡ some x → suc (length (remove es a)) ≡ length es
  unfolding Keys get
  remove_one [] a x k h = absurd (not_none (sym h))
  remove_one (e ∷ es) a x k h = elim (ℕ_discrete e.0 a) [
    | yes g ↦ rw (remove_here e es a g, remove_none es a (rw (← g) k.0))
    | no g ↦ rw (remove_there e es a g) (ap suc (remove_one es a x k.1 (sym (get_there e es a g) ∙ h)))
  ]

  pub keys_remove : (es : List (ℕ × A)) (a : ℕ) → Keys es → Keys (remove es a)
  unfolding Keys remove
  keys_remove [] a k = k
  keys_remove (e ∷ es) a k = elim (ℕ_discrete e.0 a) [
    | yes g ↦ rw (remove_here e es a g) (keys_remove es a k.1)
    | no g ↦ rw (remove_there e es a g) (get_kept es a e.0 g ∙ k.0, keys_remove es a k.1)
  ]

  keys_last : (es : List (ℕ × A)) (a : ℕ) (x : A) → Keys es → get es a ≡ none → Keys (es ++ ((a, x) ∷ []))
  unfolding Keys get
  keys_last [] a x k h = (refl, tt)
  keys_last (e ∷ es) a x k h =
      let d = other_key e es a h in
      (get_before es a e.0 x d ∙ k.0, keys_last es a x k.1 (sym (get_there e es a d) ∙ h))

  pub keys_insert : (es : List (ℕ × A)) (a : ℕ) (x : A) → Keys es → get es a ≡ none → Keys (insert es a x)
  unfolding insert
  keys_insert es a x k h = rw (remove_none es a h) (keys_last es a x k h)

  pub insert_one : (es : List (ℕ × A)) (a : ℕ) (x : A) → get es a ≡ none → length (insert es a x) ≡ suc (length es)
  unfolding insert
  insert_one es a x h = rw (remove_none es a h, length-append) (omega arith)
