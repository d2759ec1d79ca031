-- Marks in a list of bytes, 0 at first: what was met on a walk. Level Words.
use Rattle.std.specs.Prelude.{ℕ, Bool, List, get_or, set, eqb}
use Rattle.marks.specs.Tests.{each}

-- place i has no mark
unfoldable pub clear : List ℕ → ℕ → Bool
clear marks i = eqb (get_or marks i 0) 0

-- place i has a mark
unfoldable pub met : List ℕ → ℕ → Bool
met marks i = eqb (get_or marks i 0) 1

-- place i is marked
unfoldable pub mark : List ℕ → ℕ → List ℕ
mark marks i = set marks i 1

-- all of k places from i on are marked
unfoldable pub all_met : List ℕ → ℕ → ℕ → Bool
all_met marks i k = each (met marks) i k
