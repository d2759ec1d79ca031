-- Zeros filled into the start of a list.
use Rattle.std.proofs.Common.{ℕ, zero, suc, ◌≡◌, refl, ap, min, List, [], ◌∷◌, ◌++◌, length, take, drop, replicate, ◌-◌, arith}
use Rattle.std.proofs.lemmas.List.{take_min, drop_min}
use borrow.Rule.Slice.PartMut.{put_mid}
use Rattle.clear.specs.Zeroed.{zeroed}

filled : (k : ℕ) (xs : List ℕ) → replicate (length (take k xs)) 0 ++ drop k xs ≡ zeroed k xs
unfolding zeroed
filled zero xs = refl
filled (suc k) [] = refl
filled (suc k) (x ∷ xs) = ap (λ (t : List ℕ). 0 ∷ t) (filled k xs)

-- as far as there are numbers
filled_within : (k n : ℕ) (xs ys : List ℕ) → n ≡ min k (length xs) → ys ≡ replicate (length (take n xs)) 0 → ys ++ drop n xs ≡ zeroed k xs
filled_within k n xs ys e f = rw (f, e, take_min, drop_min) (filled k xs)

-- from the first one on
pub filled_from : (a k n : ℕ) (xs ys : List ℕ) → a ≡ 0 → n ≡ min k (length xs) → ys ≡ replicate (length (take (n - a) (drop a xs))) 0 → put_mid a (n - a) xs ys ≡ zeroed k xs
filled_from a k n xs ys z f e =
    let m : n - 0 ≡ n = omega arith in
    rw (z, m) (filled_within k n xs ys f (rw (z, m) at e))
