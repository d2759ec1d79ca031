-- The free path in the table of paths, by offsets. What these mean on a file that is read is in `free_laws`.
use Rattle.std.specs.Prelude.{ℕ, zero, suc, ◌+◌, ◌-◌, Bool, not, List, length, drop}
use Rattle.words.specs.Choose.{pick}
use Rattle.net_file.specs.Lists.{bit, eqs}
use Rattle.net_file.specs.Values.{free_path}
use Rattle.stored.specs.Stored.{bytes_at, path_at, path_end}
use Rattle.ends.specs.Ends.{within}

-- the bytes of t after the first i stand at `at`
unfoldable pub same_from : List ℕ → ℕ → List ℕ → ℕ → Bool
same_from s at t i = eqs (drop i t) (bytes_at s at (length t - i))

module _ (s : List ℕ) where
  -- 1 for a path that is not the free one
  unfoldable pub other : ℕ → ℕ
  other at = bit (not (eqs free_path (path_at s at)))

  -- how many of n are not
  unfoldable pub others : ℕ → ℕ → ℕ
  others at zero = 0
  others at (suc n) = other at + others (within s (path_end s at)) n

  -- the number of the first free path among n, or n
  unfoldable pub free_number : ℕ → ℕ → ℕ
  free_number at zero = 0
  free_number at (suc n) = pick (eqs free_path (path_at s at)) 0 (suc (free_number (within s (path_end s at)) n))
