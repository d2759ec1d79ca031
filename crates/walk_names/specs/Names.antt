-- The loop over the name table, by the name's number: one turn, a turn that stops it, the end.
use Rattle.std.specs.Prelude.{ℕ, ◌+◌, ◌-◌, ◌<◌, ◌≤◌, ◌≡◌, List, length, Option, Some, None}
use Rattle.std.proofs.Common.{arith}
use Rattle.net_file.specs.Read.{times_from, read_name}
use Rattle.stored.specs.Parts.{stands_name}
use Rattle.walk.specs.After.{after, after_past}
use Rattle.walk.specs.Loops.{from_more, from_bad, from_done}

module _ (s : List ℕ) (paths n i at : ℕ) (x : Option ℕ) (g : after at (times_from (read_name paths) i (n - i)) s ≡ x) where
  pub names_more : (at' : ℕ) (r : Option ℕ) → i < n → r ≡ after at (read_name paths i) s → r ≡ Some at'
      → after at' (times_from (read_name paths) (i + 1) (n - (i + 1))) s ≡ x
  names_more at' r h er ea =
      let e : n - (i + 1) ≡ n - i - 1 = omega arith in
      rw e (from_more (read_name paths) s i at at' (n - i) _ _ r x (stands_name s paths i at) g (omega arith) er ea)

  pub names_bad : (r : Option ℕ) → i < n → r ≡ after at (read_name paths i) s → r ≡ None → None ≡ x
  names_bad r h er eb = from_bad (read_name paths) s i at (n - i) r x g (omega arith) er eb

  pub names_done : n ≤ i → at ≤ length s → Some at ≡ x
  names_done h l = from_done (read_name paths) s i at (n - i) x g (omega arith) l

-- every way out, for the check of the walk
pub ruleset ways = (names_bad, names_done, after_past)
