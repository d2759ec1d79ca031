-- The three pools: document 01, "the slab reuses the last freed slot first, else takes the next new one". Places are counted from 1.
-- Level Words.
use Rattle.std.specs.Prelude.{ℕ, ◌+◌, ◌*◌, List, get_or, set}
use Rattle.words.specs.Choose.{if_eq, if_lt}
use Rattle.words.specs.Left.{Left}
use Rattle.layout.specs.Layout.{next, less, node_word, set_node_word, entry_word, set_entry_word, wait_word, set_wait_word}

-- the next new place of a pool (0 slots, 1 entries, 2 waits), 0 where there is none
unfoldable pub take_fresh : List ℕ → ℕ → Left ℕ
take_fresh ws pool =
    let k = get_or ws (9 + 2 * pool) 0 in
    if_lt k (get_or ws (1 + pool) 0) (record { is = next k; ws = set ws (9 + 2 * pool) (next k) }) (record { is = 0; ws = ws })

-- a freed place, with what comes after it in the chain that starts at word h; else a new one
unfoldable pub take : List ℕ → ℕ → ℕ → ℕ → Left ℕ
take ws h after pool =
    let c = get_or ws h 0 in
    if_eq c 0 (take_fresh ws pool) (record { is = c; ws = set ws h after })

-- a slot's number and one more; 0 where N slots hold nodes
unfoldable pub take_slot : List ℕ → Left ℕ
take_slot ws = take ws 8 (node_word ws (less (get_or ws 8 0)) 4) 0

-- 0 where all lists together hold E
unfoldable pub take_entry : List ℕ → Left ℕ
take_entry ws = take ws 10 (entry_word ws (get_or ws 10 0) 1) 1

-- 0 where all waits together are W
unfoldable pub take_wait : List ℕ → Left ℕ
take_wait ws = take ws 12 (wait_word ws (get_or ws 12 0) 2) 2

-- slot n is free, the first to be taken
unfoldable pub give_slot : List ℕ → ℕ → List ℕ
give_slot ws n = set (set_node_word ws n 4 (get_or ws 8 0)) 8 (next n)

-- entry c is free
unfoldable pub give_entry : List ℕ → ℕ → List ℕ
give_entry ws c = set (set_entry_word ws c 1 (get_or ws 10 0)) 10 c

-- wait c is free
unfoldable pub give_wait : List ℕ → ℕ → List ℕ
give_wait ws c = set (set_wait_word ws c 2 (get_or ws 12 0)) 12 c
