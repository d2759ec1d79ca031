-- Nodes put in and taken out on the words: engine.rs, `insert_node`, `finish_edit`. Level Words.
use Rattle.std.specs.Prelude.{ℕ, zero, suc, ◌+◌, ◌*◌, List, Bool, get_or, set, leb}
use Rattle.words.specs.Choose.{pick, if_eq}
use Rattle.words.specs.Left.{Left}
use Rattle.layout.specs.Layout.{next, less, dirty_stale, dirty_capacity, dead, net_word_words, set_net_word, node_word, set_node_word, principal}
use Rattle.graph.specs.Graph.{mark_dirty_words, fewer, holes}
use Rattle.pools.specs.Pools.{take_slot, give_slot}
use Rattle.lists.specs.Lists.{push_node, tighten_net_words, tighten_dirty_words}
use Rattle.edits.specs.declared.Placed.{Placed}
use Rattle.edits.specs.declared.Placed.TheVariants.{At, Refused}

-- by what became of a node: its slot, or the number by which it is refused
unfoldable pub on_placed : {A : Type 0} → Placed → (ℕ → A) → (ℕ → A) → A
on_placed (At n) at refused = at n.0
on_placed (Refused r) at refused = refused r

-- a node of net t in slot n, with so many ports, all holes
unfoldable pub fill : List ℕ → ℕ → ℕ → ℕ → ℕ → List ℕ
fill ws n t name arity = holes (set_node_word (set_node_word (set_node_word ws n 0 t) n 1 name) n 3 arity) (principal n) arity

-- slot n has an entry in net t's list, or there is none for it: 10
unfoldable pub placed_in : Left Bool → ℕ → ℕ → ℕ → ℕ → Left Placed
placed_in p n t name arity = pick p.is (record { is = At (record { 0 = n }); ws = fill p.ws n t name arity }) (record { is = Refused 10; ws = p.ws })

-- a clean node, "slot before entry": 9 while N slots hold nodes, 10 while all lists together hold E
unfoldable pub place_node : List ℕ → ℕ → ℕ → ℕ → Left Placed
place_node ws t name arity =
    let s = take_slot ws in
    if_eq s.is 0 (record { is = Refused 9; ws = s.ws }) (placed_in (push_node s.ws t (less s.is)) (less s.is) t name arity)

-- a node that a rule makes starts dirty
unfoldable pub insert_node : List ℕ → ℕ → ℕ → ℕ → Left Placed
insert_node ws t name arity =
    let p = place_node ws t name arity in
    on_placed p.is (λ n. record { is = At (record { 0 = n }); ws = mark_dirty_words p.ws n }) (λ r. record { is = Refused r; ws = p.ws })

-- "twice the count reaches the list's capacity"
unfoldable pub loose : ℕ → ℕ → Bool
loose stale capacity = leb capacity (2 * stale)

-- a dirty node of net t went: its entry in the dirty list is stale
unfoldable pub went_dirty : List ℕ → ℕ → List ℕ
went_dirty ws t =
    let stale = next (dirty_stale ws) in
    let w = fewer (set ws 16 stale) t in
    pick (loose stale (dirty_capacity w)) (tighten_dirty_words w) w

-- a node of net t went: its entry in the list of t is stale
unfoldable pub went : List ℕ → ℕ → List ℕ
went ws t =
    let stale = next (net_word_words ws t 6) in
    let w = set_net_word ws t 6 stale in
    pick (loose stale (net_word_words w t 5)) (tighten_net_words w t) w

-- slot n is vacant, the first to be taken
unfoldable pub vacate : List ℕ → ℕ → List ℕ
vacate ws n = give_slot (set_node_word (set_node_word ws n 0 0) n 2 0) n

-- one dead node goes: "When a node is removed, stale entries are counted"
unfoldable pub remove : List ℕ → ℕ → List ℕ
remove ws n =
    let t = node_word ws n 0 in
    if_eq (node_word ws n 2) 1 (went (went_dirty (vacate ws n) t) t) (went (vacate ws n) t)

-- the i-th dead node goes
unfoldable pub remove_dead : List ℕ → ℕ → List ℕ
remove_dead ws i = remove ws (get_or ws (32 + i) 0)

-- k dead nodes from the i-th on
unfoldable pub remove_all : List ℕ → ℕ → ℕ → List ℕ
remove_all ws i zero = ws
remove_all ws i (suc k) = remove_all (remove_dead ws i) (i + 1) k

-- the dead nodes go, in order
unfoldable pub finish_edit_words : List ℕ → List ℕ
finish_edit_words ws = set (remove_all ws 0 (dead ws)) 17 0
