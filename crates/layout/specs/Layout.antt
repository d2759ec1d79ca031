-- The words by name: what stands where in an image. docs/IMAGE.md has the same as a table.
-- Level Words: lists of numbers, read by `get_or` and written by `set`, so that every access has a meaning at every length.
use Rattle.std.specs.Prelude.{ℕ, ◌+◌, ◌*◌, ◌/◌, ◌%◌, Bool, List, ◌==◌, slice_index, slice_set}
use Rattle.words.specs.Choose.{if_lt}

-- ---- numbers in a word

-- one more
abbrev pub next : ℕ → ℕ
next x = (x + 1) % 4294967296

-- one less
abbrev pub less : ℕ → ℕ
less x = (x + 4294967295) % 4294967296

-- ---- the header

-- the pools N, E and W
abbrev pub node_pool : List ℕ → ℕ
node_pool ws = slice_index ws 1

abbrev pub entry_pool : List ℕ → ℕ
entry_pool ws = slice_index ws 2

abbrev pub wait_pool : List ℕ → ℕ
wait_pool ws = slice_index ws 3

-- the bytes that hold the file
abbrev pub file_length : List ℕ → ℕ
file_length ws = slice_index ws 4

-- the limit left; 4,294,967,295 is none
abbrev pub limit : List ℕ → ℕ
limit ws = slice_index ws 5

-- steps since begin
abbrev pub steps : List ℕ → ℕ
steps ws = slice_index ws 6

-- included nets
abbrev pub nets : List ℕ → ℕ
nets ws = slice_index ws 7

-- the dirty list: its length, capacity and stale entries
abbrev pub dirty_length : List ℕ → ℕ
dirty_length ws = slice_index ws 14

abbrev pub dirty_capacity : List ℕ → ℕ
dirty_capacity ws = slice_index ws 15

abbrev pub dirty_stale : List ℕ → ℕ
dirty_stale ws = slice_index ws 16

-- how many nodes are to go when the edit is finished
abbrev pub dead : List ℕ → ℕ
dead ws = slice_index ws 17

-- ---- nets: 1 to 256, 0 is none

-- the net of a name
unfoldable pub net_by_name : List ℕ → ℕ → ℕ
net_by_name ws name = if_lt name 1024 (slice_index ws (64 + name)) 0

-- the place of word f of net t: 0 name, 1 free node, 2 first entry, 3 last entry, 4 length, 5 capacity, 6 stale entries, 7 pending, 8 first wait, 9 last wait
abbrev pub net_at_words : ℕ → ℕ → ℕ
net_at_words t f = 1072 + 16 * t + f

abbrev pub net_word_words : List ℕ → ℕ → ℕ → ℕ
net_word_words ws t f = slice_index ws (net_at_words t f)

abbrev pub set_net_word : List ℕ → ℕ → ℕ → ℕ → List ℕ
set_net_word ws t f v = slice_set ws (net_at_words t f) v

-- ---- nodes

-- the place of word f of node n: 0 net, 1 name, 2 dirty, 3 ports, 4 next freed slot and one more, 5 clone map
abbrev pub node_at : ℕ → ℕ → ℕ
node_at n f = 5184 + 32 * n + f

abbrev pub node_word : List ℕ → ℕ → ℕ → ℕ
node_word ws n f = slice_index ws (node_at n f)

abbrev pub set_node_word : List ℕ → ℕ → ℕ → ℕ → List ℕ
set_node_word ws n f v = slice_set ws (node_at n f) v

-- ---- ports: port i of node n is 32 * n + 8 + i

-- the port across from p; a hole is across from itself
abbrev pub across : List ℕ → ℕ → ℕ
across ws p = slice_index ws (5184 + p)

abbrev pub set_across : List ℕ → ℕ → ℕ → List ℕ
set_across ws p q = slice_set ws (5184 + p) q

-- port 0 of node n
abbrev pub principal : ℕ → ℕ
principal n = (32 * n + 8) % 4294967296

-- the node of a port
abbrev pub node_of : ℕ → ℕ
node_of p = p / 32

unfoldable pub is_principal_words : ℕ → Bool
is_principal_words p = p % 32 == 8

-- ---- lists

-- the place of entry k of the dirty list
abbrev pub dirty_at : ℕ → ℕ
dirty_at k = 5208 + 32 * (k / 4) + k % 4

-- the place of word f of entry c of a node list: 0 node, 1 next
abbrev pub entry_at : List ℕ → ℕ → ℕ → ℕ
entry_at ws c f = 5214 + 32 * node_pool ws + 2 * c + f

abbrev pub entry_word : List ℕ → ℕ → ℕ → ℕ
entry_word ws c f = slice_index ws (entry_at ws c f)

abbrev pub set_entry_word : List ℕ → ℕ → ℕ → ℕ → List ℕ
set_entry_word ws c f v = slice_set ws (entry_at ws c f) v

-- the place of word f of wait c: 0 node, 1 its net, 2 next
abbrev pub wait_at : List ℕ → ℕ → ℕ → ℕ
wait_at ws c f = 5213 + 32 * node_pool ws + 2 * entry_pool ws + 3 * c + f

abbrev pub wait_word : List ℕ → ℕ → ℕ → ℕ
wait_word ws c f = slice_index ws (wait_at ws c f)

abbrev pub set_wait_word : List ℕ → ℕ → ℕ → ℕ → List ℕ
set_wait_word ws c f v = slice_set ws (wait_at ws c f) v
