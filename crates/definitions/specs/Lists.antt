-- Lists, options and answers that the levels Graph and Engine share. Nothing here is about nets.
use Rattle.std.specs.Prelude.{ℕ, zero, suc, Bool, true, false, List, [], ◌∷◌, ◌++◌, eqb}
use Rattle.std.proofs.Math.Option.{Option, none, some}
use Rattle.net_file.specs.Lists.{Result, ok, refuse, any}

-- go on with the value, or stay refused
infixl 10 ◌>>=◌
abbrev pub ◌>>=◌ : {A B : Type 0} → Result A → (A → Result B) → Result B
ok a >>= f = f a
refuse r >>= f = refuse r

module _ {A : Type 0} where
  -- a, if the test holds
  abbrev pub given : Bool → A → Option A
  given true a = some a
  given false a = none

  -- the value, or d
  abbrev pub or_else : Option A → A → A
  or_else none d = d
  or_else (some a) d = a

  -- there is a value
  abbrev pub is_some : Option A → Bool
  is_some none = false
  is_some (some a) = true

  -- element n
  abbrev pub nth : List A → ℕ → Option A
  nth [] n = none
  nth (x ∷ xs) zero = some x
  nth (x ∷ xs) (suc n) = nth xs n

  -- those that pass the test
  abbrev pub keep : (A → Bool) → List A → List A
  keep f [] = []
  keep f (x ∷ xs) = elim (f x) [ true ↦ x ∷ keep f xs | false ↦ keep f xs ]

  -- the first that passes
  abbrev pub find : (A → Bool) → List A → Option A
  find f [] = none
  find f (x ∷ xs) = elim (f x) [ true ↦ some x | false ↦ find f xs ]

  -- the place of the first that passes; the length where none does
  abbrev pub place : (A → Bool) → List A → ℕ
  place f [] = 0
  place f (x ∷ xs) = elim (f x) [ true ↦ 0 | false ↦ suc (place f xs) ]

  -- each element at its first place only, and not if it was seen before
  abbrev pub firsts : (A → A → Bool) → List A → List A → List A
  firsts same seen [] = []
  firsts same seen (x ∷ xs) = elim (any (same x) seen) [ true ↦ firsts same seen xs | false ↦ x ∷ firsts same (x ∷ seen) xs ]

  -- all but the last, and the last
  abbrev pub unsnoc : List A → Option (List A × A)
  unsnoc [] = none
  unsnoc (x ∷ xs) = elim (unsnoc xs) [ none ↦ some ([], x) | some p ↦ some (x ∷ p.0, p.1) ]

  -- one list after the other
  abbrev pub concat : List (List A) → List A
  concat [] = []
  concat (xs ∷ xss) = xs ++ concat xss

module _ {A B : Type 0} where
  -- one after the other
  abbrev pub foldl : (B → A → B) → B → List A → B
  foldl f b [] = b
  foldl f b (x ∷ xs) = foldl f (f b x) xs

  -- one after the other, until one refuses
  abbrev pub each : (A → B → Result B) → List A → B → Result B
  each f [] b = ok b
  each f (x ∷ xs) b = f x b >>= λ b'. each f xs b'

-- as far as both go
abbrev pub zip_with : {A B C : Type 0} → (A → B → C) → List A → List B → List C
zip_with f [] ys = []
zip_with f (x ∷ xs) [] = []
zip_with f (x ∷ xs) (y ∷ ys) = f x y ∷ zip_with f xs ys

-- k, k + 1 .. and n in all
abbrev pub from : ℕ → ℕ → List ℕ
from k zero = []
from k (suc n) = k ∷ from (suc k) n

-- 0, 1 .. n - 1
abbrev pub up_to : ℕ → List ℕ
up_to n = from 0 n

-- x is in the list
abbrev pub has : List ℕ → ℕ → Bool
has xs x = any (eqb x) xs
