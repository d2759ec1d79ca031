-- A list that ascends, found out from the front: each is held against one more than the one before it.
use Rattle.std.specs.Prelude.{ℕ, ◌+◌, ◌≡◌, refl, Bool, true, not, ◌&&◌, List, [], ◌∷◌, leb, ltb}
use Rattle.std.proofs.Common.{sym, ap, ◌∙◌, arith, add-one, lt-ltb, le-ltb, le-leb}
use Rattle.std.proofs.Math.Decide.{dec_lt}
use Rattle.std.proofs.Math.Dec.{leb-zero}
use Rattle.std.proofs.lemmas.Bool.{lt-leb}
use Rattle.net_file.specs.Lists.{ascend}

-- none is below last, nor below one more than the one before it
unfoldable pub ascend_from : ℕ → List ℕ → Bool
ascend_from last [] = true
ascend_from last (x ∷ xs) = leb last x && ascend_from (x + 1) xs

after : (x : ℕ) (xs : List ℕ) → ascend_from (x + 1) xs ≡ ascend (x ∷ xs)
unfolding ascend_from
after x [] = refl
after x (y ∷ ys) = rw (add-one x, after y ys)

pub ascends : (xs : List ℕ) → ascend_from 0 xs ≡ ascend xs
unfolding ascend_from
ascends [] = refl
ascends (x ∷ xs) = ap (λ t. t && ascend_from (x + 1) xs) (leb-zero x) ∙ after x xs

pub not_below : (m n : ℕ) → not (ltb m n) ≡ leb n m
not_below m n = elim (dec_lt m n) [
  | yes h ↦ ap not (lt-ltb m n h) ∙ sym (lt-leb n m h)
  | no h ↦ ap not (le-ltb m n (omega arith)) ∙ sym (le-leb n m (omega arith))
]
