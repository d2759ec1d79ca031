-- No edit writes the dead list's words: links, cuts, marks and new nodes leave them as they were.
use Rattle.std.specs.Prelude.{ℕ, zero, suc, ◌+◌, ◌*◌, ◌<◌, ◌≤◌, refl, Bool, true, false, List, get_or, set}
use Rattle.std.proofs.Common.{◌∙◌, get_or-set_other, arith}
use Rattle.words.specs.Choose.{pick, eq_split, lt_split}
use Rattle.words.specs.Left.{Left}
use Rattle.layout.specs.Layout.{next, less, dirty_at, dirty_length, dirty_capacity, net_word_words, net_at_words, set_net_word, node_at, node_word, set_node_word, node_of, across, set_across, entry_word, entry_at, set_entry_word, principal}
use Rattle.graph.specs.Graph.{grown, push_dirty, more, marked, mark_dirty_words, join, link, remove_wire, holes}
use Rattle.pools.specs.Pools.{take_fresh, take, take_slot, take_entry}
use Rattle.lists.specs.Lists.{put_after, count_entry, append, push_node}
use Rattle.edits.specs.declared.Placed.{Placed}
use Rattle.edits.specs.declared.Placed.TheVariants.{At, Refused}
use Rattle.edits.specs.Edits.{on_placed, fill, placed_in, place_node, insert_node}
use Rattle.means.specs.Frame.{Keep}
use Rattle.script_means.specs.Dead.{DeadWords}

-- the dead list's words of w are those of ws
pub record Stays (ws w : List ℕ) : Type 0 where
  pub same : Keep DeadWords ws w

stay : (ws : List ℕ) → Stays ws ws
stay ws = record { same = λ i h. refl }

then : {u v w : List ℕ} → Stays u v → Stays v w → Stays u w
then a b = record { same = λ i h. b.same i h ∙ a.same i h }

-- a word from 64 on, or one before 17
past : (ws : List ℕ) (j v : ℕ) → 64 ≤ j → Stays ws (set ws j v)
past ws j v l = record { same = λ i h. get_or-set_other ws j i v 0 (omega arith) }

before : (ws : List ℕ) (j v : ℕ) → j < 17 → Stays ws (set ws j v)
before ws j v l = record { same = λ i h. get_or-set_other ws j i v 0 (omega arith) }

push_dirty_stays : (ws : List ℕ) (n : ℕ) → Stays ws (push_dirty ws n)
unfolding push_dirty
push_dirty_stays ws n =
    let w = set ws (dirty_at (dirty_length ws)) n in
    let v = set w 15 (grown (dirty_capacity ws) (dirty_length ws)) in
    then (then (past ws (dirty_at (dirty_length ws)) n (omega arith)) (before w 15 _ (omega arith))) (before v 14 _ (omega arith))

marked_stays : (ws : List ℕ) (n : ℕ) → Stays ws (marked ws n)
unfolding marked more
marked_stays ws n =
    let v = set_node_word ws n 2 1 in
    let w = push_dirty v n in
    then (then (past ws (node_at n 2) 1 (omega arith)) (push_dirty_stays v n)) (past w (net_at_words (node_word w n 0) 7) _ (omega arith))

pub mark_dirty_stays : (ws : List ℕ) (n : ℕ) → Stays ws (mark_dirty_words ws n)
unfolding mark_dirty_words
mark_dirty_stays ws n = eq_split (node_word ws n 2) 0 (marked ws n) ws (λ (w : List ℕ). Stays ws w) (λ h. marked_stays ws n) (λ h. stay ws)

across_stays : (ws : List ℕ) (p q : ℕ) → Stays ws (set_across ws p q)
across_stays ws p q = past ws (5184 + p) q (omega arith)

join_stays : (ws : List ℕ) (x y : ℕ) → Stays ws (join ws x y)
unfolding join
join_stays ws x y =
    let u = set_across ws x y in
    let v = set_across u y x in
    let w = mark_dirty_words v (node_of x) in
    then (then (then (across_stays ws x y) (across_stays u y x)) (mark_dirty_stays v (node_of x))) (mark_dirty_stays w (node_of y))

pub remove_wire_stays : (ws : List ℕ) (a b : ℕ) → Stays ws (remove_wire ws a b)
unfolding remove_wire
remove_wire_stays ws a b = then (across_stays ws a a) (across_stays (set_across ws a a) b b)

pub link_stays : (ws : List ℕ) (a b : ℕ) → Stays ws (link ws a b)
unfolding link
link_stays ws a b =
    let w = set_across ws a a in
    let v = set_across w b b in
    let s : Stays ws v = then (across_stays ws a a) (across_stays w b b) in
    eq_split (across ws a) b v (join v (across ws a) (across w b)) (λ (u : List ℕ). Stays ws u) (λ h. s) (λ h. then s (join_stays v (across ws a) (across w b)))

holes_stays : (k p : ℕ) (ws : List ℕ) → Stays ws (holes ws p k)
unfolding holes
holes_stays zero p ws = stay ws
holes_stays (suc k) p ws = then (across_stays ws p p) (holes_stays k (next p) (set_across ws p p))

fill_stays : (ws : List ℕ) (n t name arity : ℕ) → Stays ws (fill ws n t name arity)
unfolding fill
fill_stays ws n t name arity =
    let u = set_node_word ws n 0 t in
    let v = set_node_word u n 1 name in
    let w = set_node_word v n 3 arity in
    then (then (then (past ws (node_at n 0) t (omega arith)) (past u (node_at n 1) name (omega arith))) (past v (node_at n 3) arity (omega arith)))
    (holes_stays arity (principal n) w)

take_stays : (ws : List ℕ) (h after pool : ℕ) → h < 17 → pool < 3 → Stays ws (take ws h after pool).ws
unfolding take take_fresh
take_stays ws h after pool a b = eq_split (get_or ws h 0) 0 _ _ (λ (l : Left ℕ). Stays ws l.ws)
    (λ e. lt_split (get_or ws (9 + 2 * pool) 0) (get_or ws (1 + pool) 0) _ _ (λ (l : Left ℕ). Stays ws l.ws) (λ e. before ws (9 + 2 * pool) _ (omega arith)) (λ e. stay ws))
    (λ e. before ws h after a)

put_after_stays : (ws : List ℕ) (t p c : ℕ) → Stays ws (put_after ws t p c)
unfolding put_after
put_after_stays ws t p c = eq_split p 0 _ _ (λ (w : List ℕ). Stays ws w) (λ e. past ws (net_at_words t 2) c (omega arith)) (λ e. past ws (entry_at ws p 1) c (omega arith))

append_stays : (ws : List ℕ) (t n c : ℕ) → Stays ws (append ws t n c)
unfolding append count_entry
append_stays ws t n c =
    let u = set_entry_word ws c 0 n in
    let v = set_entry_word u c 1 0 in
    let w = put_after v t (net_word_words ws t 3) c in
    let x = set_net_word w t 3 c in
    let y = set_net_word x t 5 (grown (net_word_words x t 5) (net_word_words x t 4)) in
    then (then (then (then (then (past ws (entry_at ws c 0) n (omega arith)) (past u (entry_at u c 1) 0 (omega arith))) (put_after_stays v t (net_word_words ws t 3) c))
    (past w (net_at_words t 3) c (omega arith))) (past x (net_at_words t 5) _ (omega arith))) (past y (net_at_words t 4) _ (omega arith))

push_node_stays : (ws : List ℕ) (t n : ℕ) → Stays ws (push_node ws t n).ws
unfolding push_node take_entry
push_node_stays ws t n =
    let s : Stays ws (take_entry ws).ws = take_stays ws 10 (entry_word ws (get_or ws 10 0) 1) 1 (omega arith) (omega arith) in
    eq_split (take_entry ws).is 0 _ _ (λ (l : Left Bool). Stays ws l.ws) (λ e. s) (λ e. then s (append_stays (take_entry ws).ws t n (take_entry ws).is))

placed_in_stays : (p : Left Bool) (n t name arity : ℕ) → Stays p.ws (placed_in p n t name arity).ws
unfolding placed_in pick
placed_in_stays p n t name arity = go p.is
  where
    go : (b : Bool) → Stays p.ws (pick {A = Left Placed} b (record { is = At (record { 0 = n }); ws = fill p.ws n t name arity }) (record { is = Refused 10; ws = p.ws })).ws
    go true = fill_stays p.ws n t name arity
    go false = stay p.ws

place_node_stays : (ws : List ℕ) (t name arity : ℕ) → Stays ws (place_node ws t name arity).ws
unfolding place_node take_slot
place_node_stays ws t name arity =
    let s = take_slot ws in
    let a : Stays ws s.ws = take_stays ws 8 (node_word ws (less (get_or ws 8 0)) 4) 0 (omega arith) (omega arith) in
    let p = push_node s.ws t (less s.is) in
    eq_split s.is 0 _ _ (λ (l : Left Placed). Stays ws l.ws) (λ e. a)
    (λ e. then (then a (push_node_stays s.ws t (less s.is))) (placed_in_stays p (less s.is) t name arity))

pub insert_node_stays : (ws : List ℕ) (t name arity : ℕ) → Stays ws (insert_node ws t name arity).ws
unfolding insert_node on_placed
insert_node_stays ws t name arity = then (place_node_stays ws t name arity) (go (place_node ws t name arity).is)
  where
    p : Left Placed
    p = place_node ws t name arity

    go : (q : Placed) → Stays p.ws (on_placed {A = Left Placed} q (λ n. record { is = At (record { 0 = n }); ws = mark_dirty_words p.ws n }) (λ r. record { is = Refused r; ws = p.ws })).ws
    go (At n) = mark_dirty_stays p.ws n.0
    go (Refused r) = stay p.ws
