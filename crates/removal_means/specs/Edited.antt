-- The dead list is kept by the edits of a script too: a link, a wire taken away, a node put in.
use Rattle.std.specs.Prelude.{ℕ, zero, suc, ◌+◌, ◌*◌, ◌<◌, Bool, true, false, List, get_or, set}
use Rattle.std.proofs.Common.{arith}
use Rattle.words.specs.Choose.{pick, eq_split, lt_split}
use Rattle.words.specs.Left.{Left}
use Rattle.layout.specs.Layout.{next, less, net_at_words, net_word_words, node_at, node_word, node_of, across, set_across, principal, entry_at, entry_word, dirty_at}
use Rattle.graph.specs.Graph.{push_dirty, more, marked, mark_dirty_words, join, link, link_all, remove_wire, holes}
use Rattle.pools.specs.Pools.{take_fresh, take, take_slot, take_entry}
use Rattle.lists.specs.Lists.{count_entry, append, push_node}
use Rattle.edits.specs.declared.Placed.{Placed}
use Rattle.edits.specs.declared.Placed.TheVariants.{At, Refused}
use Rattle.edits.specs.Edits.{on_placed, fill, placed_in, place_node, insert_node}
use Rattle.means.specs.Frame.{rest_trans}
use Rattle.removal_means.specs.Kept.{Kept, kept_set, kept_all, put_after_kept}

-- ---- links

pub mark_dirty_kept : (ws : List ℕ) (n : ℕ) → Kept ws (mark_dirty_words ws n)
unfolding mark_dirty_words marked push_dirty more
mark_dirty_kept ws n =
    eq_split (node_word ws n 2) 0 _ _ (λ w. Kept ws w)
    (λ h. rest_trans (rest_trans (rest_trans (rest_trans (kept_set ws (node_at n 2) 1 (λ i o d. omega arith)) (kept_set _ (dirty_at _) n (λ i o d. omega arith)))
    (kept_set _ 15 _ (λ i o d. omega arith))) (kept_set _ 14 _ (λ i o d. omega arith))) (kept_set _ (net_at_words _ 7) _ (λ i o d. omega arith)))
    (λ h. kept_all ws)

across_kept : (ws : List ℕ) (p q : ℕ) → Kept ws (set_across ws p q)
across_kept ws p q = kept_set ws (5184 + p) q (λ i o d. omega arith)

join_kept : (ws : List ℕ) (x y : ℕ) → Kept ws (join ws x y)
unfolding join
join_kept ws x y = rest_trans (rest_trans (rest_trans (across_kept ws x y) (across_kept _ y x)) (mark_dirty_kept _ (node_of x))) (mark_dirty_kept _ (node_of y))

pub remove_wire_kept : (ws : List ℕ) (a b : ℕ) → Kept ws (remove_wire ws a b)
unfolding remove_wire
remove_wire_kept ws a b = rest_trans (across_kept ws a a) (across_kept _ b b)

pub link_kept : (ws : List ℕ) (a b : ℕ) → Kept ws (link ws a b)
unfolding link
link_kept ws a b =
    let holes : Kept ws (set_across (set_across ws a a) b b) = rest_trans (across_kept ws a a) (across_kept _ b b) in
    eq_split (across ws a) b _ _ (λ w. Kept ws w) (λ h. holes) (λ h. rest_trans holes (join_kept _ (across ws a) _))

pub link_all_kept : (k : ℕ) (ws : List ℕ) (a b : ℕ) → Kept ws (link_all ws a b k)
unfolding link_all
link_all_kept zero ws a b = kept_all ws
link_all_kept (suc k) ws a b = rest_trans (link_kept ws a b) (link_all_kept k (link ws a b) (next a) (next b))

-- ---- a node put in

take_fresh_kept : (ws : List ℕ) (pool : ℕ) → pool < 3 → Kept ws (take_fresh ws pool).ws
unfolding take_fresh
take_fresh_kept ws pool p =
    lt_split (get_or ws (9 + 2 * pool) 0) (get_or ws (1 + pool) 0) _ _ (λ (s : Left ℕ). Kept ws s.ws) (λ h. kept_set ws (9 + 2 * pool) _ (λ i o d. omega arith)) (λ h. kept_all ws)

pub take_kept : (ws : List ℕ) (h after pool : ℕ) → h < 17 → pool < 3 → Kept ws (take ws h after pool).ws
unfolding take
take_kept ws h after pool b p =
    eq_split (get_or ws h 0) 0 _ _ (λ (s : Left ℕ). Kept ws s.ws) (λ z. take_fresh_kept ws pool p) (λ z. kept_set ws h after (λ i o d. omega arith))

append_kept : (ws : List ℕ) (t n c : ℕ) → Kept ws (append ws t n c)
unfolding append count_entry
append_kept ws t n c =
    let w = set ws (entry_at ws c 0) n in
    rest_trans (rest_trans (rest_trans (rest_trans (rest_trans (kept_set ws (entry_at ws c 0) n (λ i o d. omega arith)) (kept_set w (entry_at w c 1) 0 (λ i o d. omega arith)))
    (put_after_kept _ t (net_word_words ws t 3) c)) (kept_set _ (net_at_words t 3) c (λ i o d. omega arith))) (kept_set _ (net_at_words t 5) _ (λ i o d. omega arith)))
    (kept_set _ (net_at_words t 4) _ (λ i o d. omega arith))

push_node_kept : (ws : List ℕ) (t n : ℕ) → Kept ws (push_node ws t n).ws
unfolding push_node take_entry
push_node_kept ws t n =
    let s : Kept ws (take_entry ws).ws = take_kept ws 10 (entry_word ws (get_or ws 10 0) 1) 1 (omega arith) (omega arith) in
    eq_split (take_entry ws).is 0 _ _ (λ (l : Left Bool). Kept ws l.ws) (λ h. s) (λ h. rest_trans s (append_kept (take_entry ws).ws t n (take_entry ws).is))

holes_kept : (k : ℕ) (ws : List ℕ) (p : ℕ) → Kept ws (holes ws p k)
unfolding holes
holes_kept zero ws p = kept_all ws
holes_kept (suc k) ws p = rest_trans (across_kept ws p p) (holes_kept k _ (next p))

pub fill_kept : (ws : List ℕ) (n t name arity : ℕ) → Kept ws (fill ws n t name arity)
unfolding fill
fill_kept ws n t name arity =
    rest_trans (rest_trans (rest_trans (kept_set ws (node_at n 0) t (λ i o d. omega arith)) (kept_set _ (node_at n 1) name (λ i o d. omega arith)))
    (kept_set _ (node_at n 3) arity (λ i o d. omega arith))) (holes_kept arity _ (principal n))

placed_kept : (ws : List ℕ) (p : Left Bool) (n t name arity : ℕ) → Kept ws p.ws → Kept ws (placed_in p n t name arity).ws
unfolding placed_in pick
placed_kept ws p n t name arity k = go p.is
  where
    go : (b : Bool) → Kept ws (pick {A = Left Placed} b (record { is = At (record { 0 = n }); ws = fill p.ws n t name arity }) (record { is = Refused 10; ws = p.ws })).ws
    go true = rest_trans k (fill_kept p.ws n t name arity)
    go false = k

pub place_node_kept : (ws : List ℕ) (t name arity : ℕ) → Kept ws (place_node ws t name arity).ws
unfolding place_node take_slot
place_node_kept ws t name arity =
    let s : Kept ws (take_slot ws).ws = take_kept ws 8 (node_word ws (less (get_or ws 8 0)) 4) 0 (omega arith) (omega arith) in
    let n = less (take_slot ws).is in
    eq_split (take_slot ws).is 0 _ _ (λ (l : Left Placed). Kept ws l.ws) (λ h. s)
    (λ h. placed_kept ws (push_node (take_slot ws).ws t n) n t name arity (rest_trans s (push_node_kept (take_slot ws).ws t n)))

pub insert_node_kept : (ws : List ℕ) (t name arity : ℕ) → Kept ws (insert_node ws t name arity).ws
unfolding insert_node on_placed
insert_node_kept ws t name arity = go (place_node ws t name arity).is
  where
    w : List ℕ
    w = (place_node ws t name arity).ws

    go : (p : Placed) → Kept ws (on_placed {A = Left Placed} p (λ n. record { is = At (record { 0 = n }); ws = mark_dirty_words w n }) (λ r. record { is = Refused r; ws = w })).ws
    go (At n) = rest_trans (place_node_kept ws t name arity) (mark_dirty_kept w n.0)
    go (Refused r) = place_node_kept ws t name arity
