-- The dirty list of an image. docs/IMAGE.md, "Dirty list", lists the same conditions. Level Words. Marks: of slot n at n.
use Rattle.std.specs.Prelude.{ℕ, zero, suc, ◌+◌, ◌*◌, Bool, List, get_or, replicate, eqb, ltb}
use Rattle.words.specs.Choose.{if_eq, pick}
use Rattle.words.specs.Left.{Left}
use Rattle.layout.specs.Layout.{next, node_pool, node_word, dirty_at, dirty_length, dirty_capacity, dirty_stale}
use Rattle.marks.specs.Tests.{same, most, given, each}
use Rattle.marks.specs.Marks.{clear, mark}
use Rattle.marks.specs.Walks.{says}
use Rattle.image_lists.specs.Lists as lists

-- entry i names a slot
unfoldable pub entry_holds : List ℕ → ℕ → Bool
entry_holds ws i = ltb (get_or ws (dirty_at i) 0) (node_pool ws)

-- so do all k entries
unfoldable pub entries_hold : List ℕ → ℕ → Bool
entries_hold ws k = each (entry_holds ws) 0 k

-- node n is dirty and has not been met
unfoldable pub meets : List ℕ → List ℕ → ℕ → Bool
meets ws marks n = same (node_word ws n 2) 1 (clear marks n)

-- how many dirty nodes are met, with node n
unfoldable pub meet : List ℕ → List ℕ → ℕ → ℕ → Left ℕ
meet ws marks n met = pick (meets ws marks n) (record { is = next met; ws = mark marks n }) (record { is = met; ws = marks })

-- with those of k entries from i on
unfoldable pub meet_all : List ℕ → List ℕ → ℕ → ℕ → ℕ → Left ℕ
meet_all ws marks i met zero = record { is = met; ws = marks }
meet_all ws marks i met (suc k) =
    let r = meet ws marks (get_or ws (dirty_at i) 0) met in
    meet_all ws r.ws (next i) r.is k

-- slot n is dirty, 1, if it was met, and else clean, 0
unfoldable pub mark_holds : List ℕ → List ℕ → ℕ → Bool
mark_holds ws marks n = eqb (node_word ws n 2) (get_or marks n 0)

-- all k slots
unfoldable pub marks_hold : List ℕ → List ℕ → ℕ → Bool
marks_hold ws marks k = each (mark_holds ws marks) 0 k

-- "a dirty capacity within 4N + 4"; none was pushed where it is 0
unfoldable pub sizes_hold : ℕ → ℕ → ℕ → ℕ → Bool
sizes_hold nodes length capacity stale =
    if_eq capacity 0 (eqb length 0) (most capacity (4 * nodes + 4) (lists.sizes_hold length capacity stale))

-- all but the stale entries are dirty nodes met for the first time, and no other slot in use is dirty
unfoldable pub counts_from : List ℕ → List ℕ → ℕ → ℕ → Left Bool
counts_from ws marks length stale =
    let r = meet_all ws marks 0 0 length in
    says (same (r.is + stale) length (marks_hold ws r.ws (get_or ws 9 0))) r.ws

-- with no mark at first
unfoldable pub counts_hold : List ℕ → ℕ → ℕ → Bool
counts_hold ws length stale = (counts_from ws (replicate 4096 0) length stale).is

-- sizes, entries and counts
unfoldable pub dirty_holds : List ℕ → Bool
dirty_holds ws =
    given (sizes_hold (node_pool ws) (dirty_length ws) (dirty_capacity ws) (dirty_stale ws))
    (given (entries_hold ws (dirty_length ws)) (counts_hold ws (dirty_length ws) (dirty_stale ws)))
