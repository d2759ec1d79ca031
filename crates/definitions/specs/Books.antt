-- Level Engine, 2: edits with their books: marks, pushes, stale entries, pending numbers, answers. Document 01, "Engine rules".
use Rattle.std.specs.Prelude.{ℕ, zero, suc, ◌+◌, ◌*◌, ◌-◌, Bool, true, false, cond, List, [], ◌∷◌, ◌++◌, length, get_or, set, drop, eqb, leb, ltb}
use Rattle.std.proofs.Math.Option.{Option, none, some}
use Rattle.net_file.specs.Lists.{Result, ok, refuse, need, count}
use Rattle.definitions.specs.Lists.{◌>>=◌, is_some, keep, firsts, foldl}
use Rattle.definitions.specs.Nets.{Port, Node, Graph, at, holds}
use Rattle.definitions.specs.Scripts.{Edit, Insert, Copy, Join, Cut, ends, join, cut, fill, vacate}
use Rattle.definitions.specs.State.{Ids, Wait, Net, Engine, graph_of, with_slots, with_dirty, with_graph, with_mark, with_stale, with_list, with_awaiting, net_at, over_net, more, fewer, entries, waits}

-- ---- lists

-- "capacity 0, then 4, then doubles when a push finds it full"
unfoldable pub grown : ℕ → ℕ → ℕ
grown capacity length' = cond (eqb length' capacity) (cond (eqb capacity 0) 4 (2 * capacity)) capacity

-- at the end
unfoldable pub push : ℕ → Ids → Ids
push n l = record { items = l.items ++ n ∷ []; capacity = grown l.capacity (length l.items); stale = l.stale }

-- "the list keeps each live number's first place only"
unfoldable pub tight : (ℕ → Bool) → Ids → Ids
tight live l = record { items = firsts eqb [] (keep live l.items); capacity = l.capacity; stale = 0 }

-- "twice the count reaches the list's capacity"
unfoldable pub loose : Ids → Bool
loose l = leb l.capacity (2 * l.stale)

-- its mark
unfoldable pub is_dirty : Engine → ℕ → Bool
is_dirty e n = get_or e.slots.marks n false

-- in the dirty list a number is live while its slot holds a dirty node
unfoldable pub tighten_dirty : Engine → Engine
tighten_dirty e = with_dirty (tight (is_dirty e) e.dirty) e

-- "in a node list a number is live while its slot holds a node of that net"
unfoldable pub tighten_net : ℕ → Engine → Engine
tighten_net k e = over_net (λ n. with_list (tight (holds (graph_of e) k) n.list) n) k e

-- ---- marks

-- an entry in the dirty list
unfoldable pub push_dirty : ℕ → Engine → Engine
push_dirty n e = with_dirty (push n e.dirty) e

-- a clean node becomes dirty; a vacant slot holds none
unfoldable pub mark_dirty : ℕ → Engine → Engine
mark_dirty n e = elim (get_or (graph_of e) n none) [
  | none ↦ e
  | some x ↦ elim (is_dirty e n) [ true ↦ e | false ↦ more x.net (push_dirty n (with_mark n true e)) ]
]

-- ---- edits

-- the number that the k-th new node from here on gets; those past the chain are never given (9)
unfoldable pub fresh : Engine → ℕ → ℕ
fresh e k = get_or e.slots.chain k (length (graph_of e) + k)

-- node x in slot n, with an entry in its net's list
unfoldable pub placed : Bool → ℕ → Node → Engine → Engine
placed mark n x e =
    over_net (λ t. with_list (push n t.list) t) x.net
    (with_slots (record { graph = fill (graph_of e) n x; marks = set e.slots.marks n mark; chain = drop 1 e.slots.chain }) e)

-- "slot before entry": 9 while N slots hold nodes, 10 while all lists together hold E
unfoldable pub add_node : Bool → ℕ → Node → Engine → Result Engine
add_node mark n x e =
    need (ltb (count is_some (graph_of e)) e.pools.nodes) 9
    (need (ltb (entries e) e.pools.entries) 10 (ok (placed mark n x e)))

-- the first argument's end, then the second's; a circle marks none
unfoldable pub mark_ends : Option (Port × Port) → Engine → Engine
mark_ends none e = e
mark_ends (some p) e = mark_dirty p.1.node (mark_dirty p.0.node e)

-- "Both final nodes become dirty, even a dead one"
unfoldable pub link : Port → Port → Engine → Engine
link a b e = mark_ends (ends (graph_of e) a b) (with_graph (join (graph_of e) a b) e)

-- new nodes start dirty, "a graft's copies start clean"
unfoldable pub edit : Edit → Engine → Result Engine
edit (Insert n x) e = add_node true n x e >>= λ e'. ok (more x.net (push_dirty n e'))
edit (Copy n x) e = add_node false n x e
edit (Join a b) e = ok (link a b e)
edit (Cut a b) e = ok (with_graph (cut (graph_of e) a b) e)

-- ---- removal

-- slot n is vacant, the next to be taken, and its entry in net k's list is stale
unfoldable pub vacated : ℕ → ℕ → Engine → Engine
vacated k n e =
    over_net (λ t. with_list (with_stale (t.list.stale + 1) t.list) t) k
    (with_slots (record { graph = vacate (graph_of e) n; marks = set e.slots.marks n false; chain = n ∷ e.slots.chain }) e)

-- a dirty node went. The node visited still counts, so its net does not come to 0 here
unfoldable pub went_dirty : ℕ → Engine → Engine
went_dirty k e =
    let e₁ = fewer k (with_dirty (with_stale (e.dirty.stale + 1) e.dirty) e) in
    elim (loose e₁.dirty) [ true ↦ tighten_dirty e₁ | false ↦ e₁ ]

-- one dead node goes: "When a node is removed, stale entries are counted"
unfoldable pub remove_node : Engine → ℕ → Engine
remove_node e n =
    let k = (at (graph_of e) n).net in
    let e₁ : Engine = elim (is_dirty e n) [ true ↦ went_dirty k (vacated k n e) | false ↦ vacated k n e ] in
    elim (loose (net_at e₁ k).list) [ true ↦ tighten_net k e₁ | false ↦ e₁ ]

-- the dead nodes go, in order
unfoldable pub finish_edit : List ℕ → Engine → Engine
finish_edit dead e = foldl remove_node e dead

-- ---- answers

-- one wait is answered: "its node, if that slot still holds a node of that net, becomes dirty"; its net has one less pending
unfoldable pub wake : Wait → Engine → Engine
wake w e = fewer w.net (elim (holds (graph_of e) w.net w.node) [ true ↦ mark_dirty w.node e | false ↦ e ])

-- "oldest first; a net thereby at 0 answers its own before the next"
unfoldable pub answer : ℕ → List Wait → Engine → Engine
answer zero ws e = e
answer (suc f) [] e = e
answer (suc f) (w ∷ ws) e =
    let e₁ = wake w e in
    elim (eqb (net_at e₁ w.net).pending 0) [
      | true ↦ answer f ((net_at e₁ w.net).awaiting ++ ws) (over_net (with_awaiting []) w.net e₁)
      | false ↦ answer f ws e₁
    ]

-- where net k is at 0 its waits are answered. Each answer uses up a wait, so their number is fuel enough
unfoldable pub finish_edit_net : ℕ → Engine → Engine
finish_edit_net k e = elim (eqb (net_at e k).pending 0) [
  | true ↦ answer (waits e) (net_at e k).awaiting (over_net (with_awaiting []) k e)
  | false ↦ e
]
