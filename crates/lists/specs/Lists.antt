-- Node lists and the dirty list on the words: engine.rs, the pushes, `tighten_net`, `tighten_dirty`. Level Words.
use Rattle.std.specs.Prelude.{ℕ, zero, suc, ◌+◌, List, Bool, true, false, get_or, set}
use Rattle.words.specs.Choose.{if_eq}
use Rattle.words.specs.Left.{Left}
use Rattle.layout.specs.Layout.{next, dirty_length, net_word_words, set_net_word, node_word, set_node_word, dirty_at, entry_word, set_entry_word}
use Rattle.graph.specs.Graph.{grown}
use Rattle.pools.specs.Pools.{take_entry, give_entry}
use Rattle.lists.specs.declared.Walk.{Walk}

-- ---- one entry more

-- entry c comes after entry p of net t's list, or first where p is 0
unfoldable pub put_after : List ℕ → ℕ → ℕ → ℕ → List ℕ
put_after ws t p c = if_eq p 0 (set_net_word ws t 2 c) (set_entry_word ws p 1 c)

-- net t's list has one more
unfoldable pub count_entry : List ℕ → ℕ → List ℕ
count_entry ws t =
    let length = net_word_words ws t 4 in
    set_net_word (set_net_word ws t 5 (grown (net_word_words ws t 5) length)) t 4 (next length)

-- entry c, with node n, at the end of net t's list
unfoldable pub append : List ℕ → ℕ → ℕ → ℕ → List ℕ
append ws t n c =
    let w = set_entry_word (set_entry_word ws c 0 n) c 1 0 in
    count_entry (set_net_word (put_after w t (net_word_words ws t 3) c) t 3 c) t

-- node n at the end of net t's list; false where all lists together hold E
unfoldable pub push_node : List ℕ → ℕ → ℕ → Left Bool
push_node ws t n =
    let c = take_entry ws in
    if_eq c.is 0 (record { is = false; ws = c.ws }) (record { is = true; ws = append c.ws t n c.is })

-- ---- a net's list made tight: "each live node of the net stays once, at its first place"

-- the entry's node is of net t and in no place yet: it stays, and until all are looked at its net is 257, which no net is; else the entry goes
unfoldable pub sift : List ℕ → ℕ → Walk → Left Walk
sift ws t w =
    let n = entry_word ws w.entry 0 in
    let after = entry_word ws w.entry 1 in
    if_eq (node_word ws n 0) t
    (record { is = record { entry = after; last = w.entry; kept = next w.kept }; ws = put_after (set_node_word ws n 0 257) t w.last w.entry })
    (record { is = record { entry = after; last = w.last; kept = w.kept }; ws = give_entry ws w.entry })

-- the list ends with the last that stays; none is stale
unfoldable pub close : List ℕ → ℕ → Walk → List ℕ
close ws t w = set_net_word (set_net_word (set_net_word (put_after ws t w.last 0) t 3 w.last) t 4 w.kept) t 6 0

-- k entries from the walk's on
unfoldable pub sweep_from : List ℕ → ℕ → Walk → ℕ → List ℕ
sweep_from ws t w zero = close ws t w
sweep_from ws t w (suc k) =
    let s = sift ws t w in
    sweep_from s.ws t s.is k

-- the whole list
unfoldable pub sweep : List ℕ → ℕ → List ℕ
sweep ws t = sweep_from ws t (record { entry = net_word_words ws t 2; last = 0; kept = 0 }) (net_word_words ws t 4)

-- the nodes of k entries from c on are net t's again
unfoldable pub restore_from : List ℕ → ℕ → ℕ → ℕ → List ℕ
restore_from ws t c zero = ws
restore_from ws t c (suc k) =
    let w = set_node_word ws (entry_word ws c 0) 0 t in
    restore_from w t (entry_word w c 1) k

-- all that stay
unfoldable pub restore : List ℕ → ℕ → List ℕ
restore ws t = restore_from ws t (net_word_words ws t 2) (net_word_words ws t 4)

-- net t's list keeps each live node at its first place
unfoldable pub tighten_net_words : List ℕ → ℕ → List ℕ
tighten_net_words ws t = restore (sweep ws t) t

-- ---- the dirty list made tight

-- the node at entry i
unfoldable pub dirty_node : List ℕ → ℕ → ℕ
dirty_node ws i = get_or ws (dirty_at i) 0

-- entry i moves to place `kept` if its node is dirty and in no place yet; until all are looked at the node is clean
unfoldable pub keep_dirty : List ℕ → ℕ → ℕ → Left ℕ
keep_dirty ws i kept =
    let n = dirty_node ws i in
    if_eq (node_word ws n 2) 1 (record { is = next kept; ws = set (set_node_word ws n 2 0) (dirty_at kept) n }) (record { is = kept; ws = ws })

-- k entries from the i-th on; then the length, and none is stale
unfoldable pub sweep_dirty_from : List ℕ → ℕ → ℕ → ℕ → List ℕ
sweep_dirty_from ws i kept zero = set (set ws 14 kept) 16 0
sweep_dirty_from ws i kept (suc k) =
    let s = keep_dirty ws i kept in
    sweep_dirty_from s.ws (i + 1) s.is k

-- the whole list
unfoldable pub sweep_dirty : List ℕ → List ℕ
sweep_dirty ws = sweep_dirty_from ws 0 0 (dirty_length ws)

-- the node at entry i is dirty again
unfoldable pub dirty_again : List ℕ → ℕ → List ℕ
dirty_again ws i = set_node_word ws (dirty_node ws i) 2 1

-- the nodes of k entries from the i-th on
unfoldable pub restore_dirty_from : List ℕ → ℕ → ℕ → List ℕ
restore_dirty_from ws i zero = ws
restore_dirty_from ws i (suc k) = restore_dirty_from (dirty_again ws i) (i + 1) k

-- all that stay
unfoldable pub restore_dirty : List ℕ → List ℕ
restore_dirty ws = restore_dirty_from ws 0 (dirty_length ws)

-- the dirty list keeps each dirty node at its first place
unfoldable pub tighten_dirty_words : List ℕ → List ℕ
tighten_dirty_words ws = restore_dirty (sweep_dirty ws)
