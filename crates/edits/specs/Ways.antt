-- What a function of the crate leaves on each way out, and one turn of its loop, in the words of its tests and calls.
use Rattle.std.specs.Prelude.{ℕ, suc, ◌+◌, ◌-◌, ◌<◌, ◌≤◌, ◌≡◌, List, Bool, true, false, set}
use Rattle.std.proofs.Common.{arith}
use Rattle.words.specs.Choose.{pick_true, pick_false, eq_yes, eq_no}
use Rattle.layout.specs.Layout.{next, less, dirty_stale, dirty_capacity, net_word_words, set_net_word, node_word}
use Rattle.graph.specs.Graph.{mark_dirty_words, fewer}
use Rattle.pools.specs.Pools.{take_slot}
use Rattle.lists.specs.Lists.{push_node, tighten_net_words, tighten_dirty_words}
use Rattle.kinds.specs.declared.NodeId.{NodeId}
use Rattle.edits.specs.declared.Placed.{Placed}
use Rattle.edits.specs.declared.Placed.TheVariants.{At, Refused}
use Rattle.edits.specs.Edits.{on_placed, fill, placed_in, place_node, insert_node, loose, went_dirty, went, vacate, remove, remove_dead, remove_all}

pub place_full : (ws w : List ℕ) (t name arity c : ℕ) → c ≡ (take_slot ws).is → w ≡ (take_slot ws).ws → c ≡ 0
    → record { is = Refused 9; ws = w } ≡ place_node ws t name arity
unfolding place_node
place_full ws w t name arity c ec ew z = eq_yes _ _ _ _ (rw (← ec) z) (rw ew)

pub place_at : (ws w x y : List ℕ) (t name arity c n : ℕ) (b : Bool) → c ≡ (take_slot ws).is → w ≡ (take_slot ws).ws → (c ≡ 0 → ⊥) → n ≡ less c
    → b ≡ (push_node w t n).is → x ≡ (push_node w t n).ws → b ≡ true → y ≡ fill x n t name arity
    → record { is = At (record { 0 = n }); ws = y } ≡ place_node ws t name arity
unfolding place_node placed_in
place_at ws w x y t name arity c n b ec ew z en eb ex h ey =
    eq_no _ _ _ _ (λ e. z (rw ec e)) (pick_true _ _ _ (rw (← ec, ← ew, ← en, ← eb) h) (rw (ey, ex, en, ew, ec)))

pub place_none : (ws w x : List ℕ) (t name arity c n : ℕ) (b : Bool) → c ≡ (take_slot ws).is → w ≡ (take_slot ws).ws → (c ≡ 0 → ⊥) → n ≡ less c
    → b ≡ (push_node w t n).is → x ≡ (push_node w t n).ws → b ≡ false
    → record { is = Refused 10; ws = x } ≡ place_node ws t name arity
unfolding place_node placed_in
place_none ws w x t name arity c n b ec ew z en eb ex h =
    eq_no _ _ _ _ (λ e. z (rw ec e)) (pick_false _ _ _ (rw (← ec, ← ew, ← en, ← eb) h) (rw (ex, en, ew, ec)))

pub insert_at : (ws w x : List ℕ) (t name arity : ℕ) (n : NodeId) (p : Placed) → p ≡ (place_node ws t name arity).is → w ≡ (place_node ws t name arity).ws
    → p ≡ At n → x ≡ mark_dirty_words w n.0 → record { is = At n; ws = x } ≡ insert_node ws t name arity
unfolding insert_node on_placed
insert_at ws w x t name arity n p ep ew h ex = rw (← ep, h, ← ew, ex)

pub insert_refused : (ws w : List ℕ) (t name arity r : ℕ) (p : Placed) → p ≡ (place_node ws t name arity).is → w ≡ (place_node ws t name arity).ws
    → p ≡ Refused r → record { is = Refused r; ws = w } ≡ insert_node ws t name arity
unfolding insert_node on_placed
insert_refused ws w t name arity r p ep ew h = rw (← ep, h, ← ew)

pub dirty_tight : (ws w v x : List ℕ) (t s stale capacity : ℕ) (b : Bool) → s ≡ dirty_stale ws → stale ≡ next s → w ≡ set ws 16 stale → v ≡ fewer w t
    → capacity ≡ dirty_capacity v → b ≡ loose stale capacity → b ≡ true → x ≡ tighten_dirty_words v → x ≡ went_dirty ws t
unfolding went_dirty
dirty_tight ws w v x t s stale capacity b es et ew ev ec eb h ex =
    pick_true _ _ _ (rw (← es, ← et, ← ew, ← ev, ← ec, ← eb) h) (rw (ex, ev, ew, et, es))

pub went_tight : (ws w x : List ℕ) (t s stale capacity : ℕ) (b : Bool) → s ≡ net_word_words ws t 6 → stale ≡ next s → w ≡ set_net_word ws t 6 stale
    → capacity ≡ net_word_words w t 5 → b ≡ loose stale capacity → b ≡ true → x ≡ tighten_net_words w t → x ≡ went ws t
unfolding went
went_tight ws w x t s stale capacity b es et ew ec eb h ex = pick_true _ _ _ (rw (← es, ← et, ← ew, ← ec, ← eb) h) (rw (ex, ew, et, es))

pub went_left : (ws w : List ℕ) (t s stale capacity : ℕ) (b : Bool) → s ≡ net_word_words ws t 6 → stale ≡ next s → w ≡ set_net_word ws t 6 stale
    → capacity ≡ net_word_words w t 5 → b ≡ loose stale capacity → b ≡ false → w ≡ went ws t
unfolding went
went_left ws w t s stale capacity b es et ew ec eb h = pick_false _ _ _ (rw (← es, ← et, ← ew, ← ec, ← eb) h) (rw (ew, et, es))

pub remove_dirty : (ws w v x : List ℕ) (n t d : ℕ) → t ≡ node_word ws n 0 → d ≡ node_word ws n 2 → w ≡ vacate ws n → d ≡ 1 → v ≡ went_dirty w t → x ≡ went v t
    → x ≡ remove ws n
unfolding remove
remove_dirty ws w v x n t d et ed ew h ev ex = eq_yes _ _ _ _ (rw (← ed) h) (rw (ex, ev, ew, et))

pub remove_clean : (ws w x : List ℕ) (n t d : ℕ) → t ≡ node_word ws n 0 → d ≡ node_word ws n 2 → w ≡ vacate ws n → (d ≡ 1 → ⊥) → x ≡ went w t
    → x ≡ remove ws n
unfolding remove
remove_clean ws w x n t d et ed ew h ex = eq_no _ _ _ _ (λ e. h (rw ed e)) (rw (ex, ew, et))

pub remove_more : (ws w : List ℕ) (i m : ℕ) (x : List ℕ) → set (remove_all ws i (m - i)) 17 0 ≡ x → i < m → w ≡ remove_dead ws i
    → set (remove_all w (i + 1) (m - (i + 1))) 17 0 ≡ x
unfolding remove_all
remove_more ws w i m x e h ew = let s : m - i ≡ suc (m - (i + 1)) = omega arith in rw ew (rw s at e)

pub remove_done : (ws w : List ℕ) (i m : ℕ) (x : List ℕ) → set (remove_all ws i (m - i)) 17 0 ≡ x → m ≤ i → w ≡ set ws 17 0 → w ≡ x
unfolding remove_all
remove_done ws w i m x e h ew = let s : m - i ≡ 0 = omega arith in rw ew (rw s at e)
