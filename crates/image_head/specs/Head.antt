-- The header of an image. docs/IMAGE.md, "Header", lists the same conditions. Level Words.
use Rattle.std.specs.Prelude.{ℕ, ◌+◌, Bool, List, get_or, eqb, leb}
use Rattle.words.specs.Choose.{if_eq}
use Rattle.fields.specs.Fields.{be32}
use Rattle.layout.specs.Layout.{node_pool, entry_pool, wait_pool, limit, steps, dead}
use Rattle.marks.specs.Tests.{same, most, given}

-- the mark is 1, the pools are those named
unfoldable pub pools_hold : List ℕ → ℕ → ℕ → ℕ → Bool
pools_hold ws nodes entries waits = same (get_or ws 0 0) 1 (same (node_pool ws) nodes (same (entry_pool ws) entries (eqb (wait_pool ws) waits)))

-- slots, entries and waits in use: at most N, E and W
unfoldable pub used_hold : List ℕ → ℕ → ℕ → ℕ → Bool
used_hold ws nodes entries waits = most (get_or ws 9 0) nodes (most (get_or ws 11 0) entries (leb (get_or ws 13 0) waits))

-- no node waits to be removed
unfoldable pub header_holds : List ℕ → ℕ → ℕ → ℕ → Bool
header_holds ws nodes entries waits = given (pools_hold ws nodes entries waits) (given (used_hold ws nodes entries waits) (eqb (dead ws) 0))

-- "a none staying none"; else the steps taken and those left are the limit
unfoldable pub left_holds : ℕ → ℕ → ℕ → Bool
left_holds limit steps left = if_eq limit 4294967295 (eqb left 4294967295) (eqb (left + steps) limit)

-- at most 16,777,216 steps since begin, and the limit left by the file's limit
unfoldable pub steps_hold : List ℕ → List ℕ → Bool
steps_hold ws file = most (steps ws) 16777216 (left_holds (be32 file 5) (steps ws) (limit ws))
