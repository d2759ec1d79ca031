-- Lists, tests and answers that the definitions share. Nothing here is about nets.
use Rattle.std.specs.Prelude.{ℕ, zero, suc, ◌+◌, Bool, true, false, not, ◌&&◌, ◌||◌, List, [], ◌∷◌, ◌++◌, length, eqb, ltb}

-- an answer: a value, or the number that it is refused by
pub data Result (A : Type 0) : Type 0 where
  ok : A → Result A
  refuse : ℕ → Result A

-- go on if the test holds, else refuse by r
abbrev pub need : {A : Type 0} → Bool → ℕ → Result A → Result A
need true r x = x
need false r x = refuse r

-- a test as a number
abbrev pub bit : Bool → ℕ
bit true = 1
bit false = 0

module _ {A : Type 0} where
  abbrev pub all : (A → Bool) → List A → Bool
  all f [] = true
  all f (x ∷ xs) = f x && all f xs

  abbrev pub any : (A → Bool) → List A → Bool
  any f [] = false
  any f (x ∷ xs) = f x || any f xs

  -- how many pass the test
  abbrev pub count : (A → Bool) → List A → ℕ
  count f [] = 0
  count f (x ∷ xs) = bit (f x) + count f xs

  -- no two elements are the same
  abbrev pub distinct : (A → A → Bool) → List A → Bool
  distinct same [] = true
  distinct same (x ∷ xs) = not (any (same x) xs) && distinct same xs

-- the same elements in the same order
abbrev pub eqs : List ℕ → List ℕ → Bool
eqs [] [] = true
eqs [] (y ∷ ys) = false
eqs (x ∷ xs) [] = false
eqs (x ∷ xs) (y ∷ ys) = eqb x y && eqs xs ys

abbrev pub concat_map : {A B : Type 0} → (A → List B) → List A → List B
concat_map f [] = []
concat_map f (x ∷ xs) = f x ++ concat_map f xs

abbrev pub sum : List ℕ → ℕ
sum [] = 0
sum (x ∷ xs) = x + sum xs

-- each smaller than the next
abbrev pub ascend : List ℕ → Bool
ascend [] = true
ascend (x ∷ []) = true
ascend (x ∷ y ∷ xs) = ltb x y && ascend (y ∷ xs)
