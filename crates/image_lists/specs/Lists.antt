-- The node lists of an image. docs/IMAGE.md, "Node lists", lists the same conditions. Level Words.
-- Marks: of entry c at c, of slot n at 16,385 + n.
use Rattle.std.specs.Prelude.{ℕ, zero, suc, ◌+◌, ◌*◌, ◌%◌, Bool, false, List, eqb, ltb}
use Rattle.words.specs.Choose.{if_lt, pick}
use Rattle.words.specs.Left.{Left}
use Rattle.layout.specs.Layout.{next, node_pool, net_word_words, node_word, entry_word}
use Rattle.marks.specs.Tests.{same, other, most, given}
use Rattle.marks.specs.Marks.{clear, mark}
use Rattle.marks.specs.Walks.{says}
use Rattle.image_chains.specs.Chains.{is_new}
use Rattle.image_chains.specs.declared.Pool.TheVariants.{Entries}
use Rattle.image_lists.specs.declared.Walk.{Walk}

-- ---- entries and slots

-- entry c is in use, has not been met, and names a slot
unfoldable pub entry_holds : List ℕ → List ℕ → ℕ → Bool
entry_holds ws marks c = given (is_new Entries ws marks c) (ltb (entry_word ws c 0) (node_pool ws))

-- slot n holds a node of net t that has not been met
unfoldable pub meets : List ℕ → List ℕ → ℕ → ℕ → Bool
meets ws marks t n = same (node_word ws n 0) t (clear marks (16385 + n))

-- ---- lists

-- how many nodes are met, with slot n
unfoldable pub meet : List ℕ → List ℕ → ℕ → ℕ → ℕ → Left ℕ
meet ws marks t n met =
    pick (meets ws marks t n) (record { is = next met; ws = mark marks (16385 + n) }) (record { is = met; ws = marks })

-- past an entry that is in order
unfoldable pub step_on : List ℕ → List ℕ → ℕ → Walk → Left Walk
step_on ws marks t w =
    let c = w.entry in
    let m = meet ws (mark marks c) t (entry_word ws c 0) w.met in
    record { is = record { entry = entry_word ws c 1; last = c; met = m.is }; ws = m.ws }

-- one entry on; past one that is not in order there are none, entry 0
unfoldable pub step : List ℕ → List ℕ → ℕ → Walk → Left Walk
step ws marks t w =
    pick (entry_holds ws marks w.entry) (step_on ws marks t w)
    (record { is = record { entry = 0; last = 0; met = w.met }; ws = marks })

-- k entries on
unfoldable pub walk_list : List ℕ → List ℕ → ℕ → Walk → ℕ → Left Walk
walk_list ws marks t w zero = record { is = w; ws = marks }
walk_list ws marks t w (suc k) =
    let s = step ws marks t w in
    walk_list ws s.ws t s.is k

-- a capacity of 4, 8 .. 16,384, at least the length, and "stale counts (under half a nonzero capacity)"
unfoldable pub sizes_hold : ℕ → ℕ → ℕ → Bool
sizes_hold length capacity stale = if_lt capacity 4 false (same (16384 % capacity) 0 (most length capacity (ltb (2 * stale) capacity)))

-- those of net t
unfoldable pub list_sizes_hold : List ℕ → ℕ → Bool
list_sizes_hold ws t = sizes_hold (net_word_words ws t 4) (net_word_words ws t 5) (net_word_words ws t 6)

-- the free node is first
unfoldable pub first_holds : List ℕ → ℕ → Bool
first_holds ws t = eqb (entry_word ws (net_word_words ws t 2) 0) (net_word_words ws t 1)

-- both
unfoldable pub starts : List ℕ → ℕ → Bool
starts ws t = given (list_sizes_hold ws t) (first_holds ws t)

-- the walk came to the list's last entry and no further, and all but the stale entries were nodes met for the first time
unfoldable pub end_holds : List ℕ → ℕ → Walk → Bool
end_holds ws t w =
    other w.last 0 (same w.entry 0 (same w.last (net_word_words ws t 3) (eqb (w.met + net_word_words ws t 6) (net_word_words ws t 4))))

-- from net t's first entry on
unfoldable pub walked : List ℕ → List ℕ → ℕ → Left Walk
walked ws marks t = walk_list ws marks t (record { entry = net_word_words ws t 2; last = 0; met = 0 }) (net_word_words ws t 4)

-- net t's list: as many entries as its length says, from its first to its last
unfoldable pub list_holds : List ℕ → List ℕ → ℕ → Left Bool
list_holds ws marks t = pick (starts ws t) (says (end_holds ws t (walked ws marks t).is) (walked ws marks t).ws) (says false marks)
