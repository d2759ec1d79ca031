-- Numbers of two bytes that stand one after another, where all are there.
use Rattle.std.specs.Prelude.{ℕ, ◌+◌, ◌*◌, ◌<◌, ◌≤◌, ◌≡◌, refl, List, [], length}
use Rattle.std.proofs.Math.Path.{sym}
use Rattle.words.specs.Choose.{if_lt, lt_yes, lt_no}
use Rattle.stored.specs.Stored.{numbers_at}

module _ (s : List ℕ) (from n : ℕ) where
  -- n numbers, or none
  unfoldable pub run : List ℕ
  run = if_lt (length s) (from + 2 * n) [] (numbers_at s from n)

  pub run_none : length s < from + 2 * n → run ≡ []
  unfolding run
  run_none h = sym (lt_yes _ _ _ _ h refl)

  pub run_all : from + 2 * n ≤ length s → run ≡ numbers_at s from n
  unfolding run
  run_all h = sym (lt_no _ _ _ _ h refl)
