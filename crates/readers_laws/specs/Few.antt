-- At most 256 paths: 255 besides the free one, and that one once.
use Rattle.std.specs.Prelude.{ℕ, ◌+◌, ◌≤◌, ◌≡◌, refl, Bool, true, false, not, List, length, T}
use Rattle.std.proofs.Common.{arith}
use Rattle.net_file.specs.Lists.{count, distinct, eqs}
use Rattle.list_laws.specs.Lists.{count_once, count_both, eqs_true}

sure : (t : Bool) → T t → t ≡ true
sure true h = refl
sure false h = absurd h

pub one_more : (y : List ℕ) (n : ℕ) (xs : List (List ℕ)) → T (distinct eqs xs) → count (λ x. not (eqs y x)) xs ≤ n → length xs ≤ n + 1
one_more y n xs t h = omega (arith, count_once eqs eqs_true y xs (sure _ t), count_both (eqs y) xs)
