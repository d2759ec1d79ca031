-- A list whose elements are pairwise different, found out from the front: each is held against those seen before it.
use Rattle.std.specs.Prelude.{◌≡◌, Bool, ◌&&◌, ◌||◌}
use Rattle.std.proofs.Math.Path.{refl}
use Rattle.std.proofs.Common.{ap, ◌∙◌}
use Rattle.std.proofs.Math.Bool.{true, false, not}
use mathlib.Core.List.{List, [], ◌∷◌}
use Rattle.words.specs.Choose.{pick}
use Rattle.net_file.specs.Lists.{all, any, distinct}

-- no element is among those seen, nor is it the same as an element after it
unfoldable pub fresh : {A : Type 0} → (A → A → Bool) → (A → Bool) → List A → Bool
fresh same seen [] = true
fresh same seen (x ∷ xs) = pick (seen x) false (fresh same (λ y. same x y || seen y) xs)

module _ {A : Type 0} (same : A → A → Bool) where
  all_split : (f g : A → Bool) (xs : List A) → all (λ y. not (f y || g y)) xs ≡ (not (any f xs) && all (λ y. not (g y)) xs)
  all_split f g [] = refl
  all_split f g (x ∷ xs) = rw (all_split f g xs) (go (f x) (g x) (any f xs) (all (λ y. not (g y)) xs))
    where
      go : (a b c d : Bool) → (not (a || b) && (not c && d)) ≡ (not (a || c) && (not b && d))
      go true b c d = refl
      go false true true d = refl
      go false true false d = refl
      go false false c d = refl

  fresh_from : (seen : A → Bool) (xs : List A) → fresh same seen xs ≡ (all (λ y. not (seen y)) xs && distinct same xs)
  unfolding fresh pick
  fresh_from seen [] = refl
  fresh_from seen (x ∷ xs) =
      rw (fresh_from (λ y. same x y || seen y) xs, all_split (same x) seen xs)
      (go (seen x) (any (same x) xs) (all (λ y. not (seen y)) xs) (distinct same xs))
    where
      go : (a b c d : Bool) → pick a false (not b && c && d) ≡ (not a && c && (not b && d))
      go true b c d = refl
      go false true true d = refl
      go false true false d = refl
      go false false c d = refl

  all_true : (xs : List A) → all (λ y. not false) xs ≡ true
  all_true [] = refl
  all_true (x ∷ xs) = all_true xs

  pub fresh_distinct : (xs : List A) → fresh same (λ y. false) xs ≡ distinct same xs
  fresh_distinct xs = fresh_from (λ y. false) xs ∙ ap (λ t. t && distinct same xs) (all_true xs)
