-- The slots of an image. docs/IMAGE.md, "Slots", lists the same conditions. Level Words.
use Rattle.std.specs.Prelude.{ℕ, ◌-◌, ◌%◌, Bool, true, false, List, get_or, eqb, ltb, Option, Some, None}
use Rattle.words.specs.Choose.{if_eq}
use Rattle.fields.specs.Fields.{be16}
use Rattle.net_file.specs.Read.{read_name}
use Rattle.stored.specs.Stored.{name_count_at}
use Rattle.walk.specs.After.{after}
use Rattle.layout.specs.Layout.{node_pool, nets, net_word_words, node_word, across, principal, node_of}
use Rattle.marks.specs.Tests.{same, other, below, most, given, each}

-- word i of node n's record is one of its ports
unfoldable pub has_port : List ℕ → ℕ → ℕ → Bool
has_port ws n i = most 8 i (ltb (i - 8) (node_word ws n 3))

-- p is a port of a node of net t
unfoldable pub is_port : List ℕ → ℕ → ℕ → Bool
is_port ws t p =
    let n = node_of p in
    below n (get_or ws 9 0) (same (node_word ws n 0) t (has_port ws n (p % 32)))

-- "links that agree at both ends within one net": across from port p is another port of the net, and across from that is p
unfoldable pub port_holds : List ℕ → ℕ → ℕ → Bool
port_holds ws t p =
    let q = across ws p in
    other q p (same (across ws q) p (is_port ws t q))

-- k ports from p on
unfoldable pub ports_hold : List ℕ → ℕ → ℕ → ℕ → Bool
ports_hold ws t p k = each (port_holds ws t) p k

-- 1 to 16 ports
unfoldable pub node_holds : List ℕ → ℕ → ℕ → Bool
node_holds ws t n =
    let k = node_word ws n 3 in
    other k 0 (most k 16 (ports_hold ws t (principal n) k))

-- something was read
unfoldable pub is_read : Option ℕ → Bool
is_read (Some at) = true
is_read None = false

-- a name of a node, over so many paths and names, can be read at a place
unfoldable pub name_stands : List ℕ → ℕ → ℕ → ℕ → Bool
name_stands file paths names at = is_read (after at (read_name paths names) file)

-- net t's free node has no name, every other node has one
unfoldable pub name_holds : List ℕ → List ℕ → ℕ → ℕ → ℕ → ℕ → Bool
name_holds ws file paths names t n =
    let name = node_word ws n 1 in
    if_eq name 0 (eqb (net_word_words ws t 1) n) (name_stands file paths names name)

-- slot n is in use, and holds a node of net t
unfoldable pub filled_holds : List ℕ → List ℕ → ℕ → ℕ → ℕ → ℕ → Bool
filled_holds ws file paths names t n =
    most t (nets ws) (below n (get_or ws 9 0) (given (node_holds ws t n) (name_holds ws file paths names t n)))

-- slot n holds a node, or is vacant and clean
unfoldable pub slot_holds : List ℕ → List ℕ → ℕ → ℕ → ℕ → Bool
slot_holds ws file paths names n =
    let t = node_word ws n 0 in
    if_eq t 0 (eqb (node_word ws n 2) 0) (filled_holds ws file paths names t n)

-- k slots from the first on
unfoldable pub all_hold : List ℕ → List ℕ → ℕ → ℕ → ℕ → Bool
all_hold ws file paths names k = each (slot_holds ws file paths names) 0 k

-- all N slots
unfoldable pub slots_hold : List ℕ → List ℕ → Bool
slots_hold ws file = all_hold ws file (be16 file 9) (be16 file (name_count_at file)) (node_pool ws)
