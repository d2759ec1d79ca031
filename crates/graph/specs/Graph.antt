-- Ports, wires and dirty marks on the words: engine.rs, `link`, `link_all`, `remove_wire`, `mark_dirty`, `remove_node`.
-- Level Words.
use Rattle.std.specs.Prelude.{ℕ, zero, suc, ◌+◌, ◌%◌, List, set, slice_set}
use Rattle.words.specs.Choose.{if_eq}
use Rattle.layout.specs.Layout.{next, less, dirty_length, dirty_capacity, dead, net_word_words, set_net_word, node_word, set_node_word, across, set_across, node_of, dirty_at}

-- "capacity 0, then 4, then doubles when a push finds it full"
unfoldable pub grown : ℕ → ℕ → ℕ
grown capacity length = if_eq length capacity (if_eq capacity 0 4 ((capacity + capacity) % 4294967296)) capacity

-- an entry at the end of the dirty list
unfoldable pub push_dirty : List ℕ → ℕ → List ℕ
push_dirty ws n =
    let k = dirty_length ws in
    let w = set ws (dirty_at k) n in
    slice_set (slice_set w 15 (grown (dirty_capacity ws) k)) 14 (next k)

-- net t has one more pending
unfoldable pub more : List ℕ → ℕ → List ℕ
more ws t = set_net_word ws t 7 (next (net_word_words ws t 7))

-- and one less
unfoldable pub fewer : List ℕ → ℕ → List ℕ
fewer ws t = set_net_word ws t 7 (less (net_word_words ws t 7))

-- node n, so far clean, is dirty
unfoldable pub marked : List ℕ → ℕ → List ℕ
marked ws n =
    let w = push_dirty (set_node_word ws n 2 1) n in
    more w (node_word w n 0)

-- a clean node becomes dirty
unfoldable pub mark_dirty_words : List ℕ → ℕ → List ℕ
mark_dirty_words ws n = if_eq (node_word ws n 2) 0 (marked ws n) ws

-- two ports are across from each other; "Both final nodes become dirty"
unfoldable pub join : List ℕ → ℕ → ℕ → List ℕ
join ws x y = mark_dirty_words (mark_dirty_words (set_across (set_across ws x y) y x) (node_of x)) (node_of y)

-- "Linking takes the port now across from an argument whose slot is filled. Two ports already wired together vanish as a circle"
unfoldable pub link : List ℕ → ℕ → ℕ → List ℕ
link ws a b =
    let x = across ws a in
    let w = set_across ws a a in
    if_eq x b (set_across w b b) (join (set_across w b b) x (across w b))

-- k ports from a on with those from b on
unfoldable pub link_all : List ℕ → ℕ → ℕ → ℕ → List ℕ
link_all ws a b zero = ws
link_all ws a b (suc k) = link_all (link ws a b) (next a) (next b) k

-- the two ports of a wire are holes
unfoldable pub remove_wire : List ℕ → ℕ → ℕ → List ℕ
remove_wire ws a b = set_across (set_across ws a a) b b

-- node n is to go when the edit is finished
unfoldable pub remove_node : List ℕ → ℕ → List ℕ
remove_node ws n =
    let k = dead ws in
    slice_set (slice_set ws (32 + k) n) 17 (next k)

-- k ports from p on are holes
unfoldable pub holes : List ℕ → ℕ → ℕ → List ℕ
holes ws p zero = ws
holes ws p (suc k) = holes (set_across ws p p) (next p) k
