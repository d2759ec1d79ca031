-- The dead list is kept: no list that is made tight, and no node that goes, writes words 17 to 1,071.
use Rattle.std.specs.Prelude.{ℕ, zero, suc, ◌+◌, ◌<◌, ◌≤◌, refl, ◌≢◌, List, get_or, set, Bool, true, false}
use Rattle.std.proofs.Common.{arith}
use Rattle.words.specs.Choose.{eq_split, pick}
use Rattle.words.specs.Left.{Left}
use Rattle.layout.specs.Layout.{next, net_at_words, net_word_words, node_at, node_word, entry_at, entry_word, dirty_at, dirty_length, dirty_stale, dirty_capacity}
use Rattle.graph.specs.Graph
use Rattle.pools.specs.Pools.{give_slot, give_entry}
use Rattle.lists.specs.declared.Walk.{Walk}
use Rattle.lists.specs.Lists.{put_after, sift, close, sweep_from, sweep, restore_from, restore, tighten_net_words, dirty_node, keep_dirty, sweep_dirty_from, sweep_dirty, dirty_again, restore_dirty_from, restore_dirty, tighten_dirty_words}
use Rattle.edits.specs.Edits
use Rattle.means.specs.Frame.{Rest, rest_set, rest_trans}

-- words 17 to 1,071: the dead list, and the nets by name
abbrev pub LowWords : ℕ → Type 0
LowWords i = (17 ≤ i) × (i < 1072)

-- these words are kept
abbrev pub Kept : List ℕ → List ℕ → Type 0
Kept ws w = Rest LowWords ws w

pub kept_set : (ws : List ℕ) (j v : ℕ) → ((i : ℕ) → LowWords i → i ≢ j) → Kept ws (set ws j v)
kept_set ws j v n = rest_set LowWords ws j v n

pub kept_all : (ws : List ℕ) → Kept ws ws
kept_all ws = record { long = refl; same = λ i o. refl }

-- one side or the other of a test
pub kept_pick : (ws a b : List ℕ) (t : Bool) → Kept ws a → Kept ws b → Kept ws (pick t a b)
unfolding pick
kept_pick ws a b true f g = f
kept_pick ws a b false f g = g

-- ---- a net's list

give_entry_kept : (ws : List ℕ) (c : ℕ) → Kept ws (give_entry ws c)
unfolding give_entry
give_entry_kept ws c = rest_trans (kept_set ws (entry_at ws c 1) (get_or ws 10 0) (λ i o d. omega arith)) (kept_set _ 10 c (λ i o d. omega arith))

pub put_after_kept : (ws : List ℕ) (t p c : ℕ) → Kept ws (put_after ws t p c)
unfolding put_after
put_after_kept ws t p c =
    eq_split p 0 _ _ (λ w. Kept ws w) (λ h. kept_set ws (net_at_words t 2) c (λ i o d. omega arith)) (λ h. kept_set ws (entry_at ws p 1) c (λ i o d. omega arith))

sift_kept : (ws : List ℕ) (t : ℕ) (w : Walk) → Kept ws (sift ws t w).ws
unfolding sift
sift_kept ws t w =
    eq_split (node_word ws (entry_word ws w.entry 0) 0) t _ _ (λ (s : Left Walk). Kept ws s.ws)
    (λ h. rest_trans (kept_set ws (node_at (entry_word ws w.entry 0) 0) 257 (λ i o d. omega arith)) (put_after_kept _ t w.last w.entry))
    (λ h. give_entry_kept ws w.entry)

close_kept : (ws : List ℕ) (t : ℕ) (w : Walk) → Kept ws (close ws t w)
unfolding close
close_kept ws t w =
    rest_trans (rest_trans (rest_trans (put_after_kept ws t w.last 0) (kept_set _ (net_at_words t 3) w.last (λ i o d. omega arith)))
    (kept_set _ (net_at_words t 4) w.kept (λ i o d. omega arith))) (kept_set _ (net_at_words t 6) 0 (λ i o d. omega arith))

sweep_kept : (k : ℕ) (ws : List ℕ) (t : ℕ) (w : Walk) → Kept ws (sweep_from ws t w k)
unfolding sweep_from
sweep_kept zero ws t w = close_kept ws t w
sweep_kept (suc k) ws t w = rest_trans (sift_kept ws t w) (sweep_kept k (sift ws t w).ws t (sift ws t w).is)

restore_kept : (k : ℕ) (ws : List ℕ) (t c : ℕ) → Kept ws (restore_from ws t c k)
unfolding restore_from
restore_kept zero ws t c = kept_all ws
restore_kept (suc k) ws t c = rest_trans (kept_set ws (node_at (entry_word ws c 0) 0) t (λ i o d. omega arith)) (restore_kept k _ t _)

pub tighten_net_kept : (ws : List ℕ) (t : ℕ) → Kept ws (tighten_net_words ws t)
unfolding tighten_net_words sweep restore
tighten_net_kept ws t = rest_trans (sweep_kept (net_word_words ws t 4) ws t _) (restore_kept (net_word_words (sweep ws t) t 4) (sweep ws t) t _)

-- ---- the dirty list

keep_dirty_kept : (ws : List ℕ) (i kept : ℕ) → Kept ws (keep_dirty ws i kept).ws
unfolding keep_dirty
keep_dirty_kept ws i kept =
    eq_split (node_word ws (dirty_node ws i) 2) 1 _ _ (λ (s : Left ℕ). Kept ws s.ws)
    (λ h. rest_trans (kept_set ws (node_at (dirty_node ws i) 2) 0 (λ j o d. omega arith)) (kept_set _ (dirty_at kept) (dirty_node ws i) (λ j o d. omega arith)))
    (λ h. kept_all ws)

sweep_dirty_kept : (k : ℕ) (ws : List ℕ) (i kept : ℕ) → Kept ws (sweep_dirty_from ws i kept k)
unfolding sweep_dirty_from
sweep_dirty_kept zero ws i kept = rest_trans (kept_set ws 14 kept (λ j o d. omega arith)) (kept_set _ 16 0 (λ j o d. omega arith))
sweep_dirty_kept (suc k) ws i kept = rest_trans (keep_dirty_kept ws i kept) (sweep_dirty_kept k _ (i + 1) (keep_dirty ws i kept).is)

restore_dirty_kept : (k : ℕ) (ws : List ℕ) (i : ℕ) → Kept ws (restore_dirty_from ws i k)
unfolding restore_dirty_from dirty_again
restore_dirty_kept zero ws i = kept_all ws
restore_dirty_kept (suc k) ws i = rest_trans (kept_set ws (node_at (dirty_node ws i) 2) 1 (λ j o d. omega arith)) (restore_dirty_kept k _ (i + 1))

pub tighten_dirty_kept : (ws : List ℕ) → Kept ws (tighten_dirty_words ws)
unfolding tighten_dirty_words sweep_dirty restore_dirty
tighten_dirty_kept ws = rest_trans (sweep_dirty_kept (dirty_length ws) ws 0 0) (restore_dirty_kept (dirty_length (sweep_dirty ws)) (sweep_dirty ws) 0)

-- ---- a node that goes

pub fewer_kept : (ws : List ℕ) (t : ℕ) → Kept ws (Graph.fewer ws t)
unfolding Graph.fewer
fewer_kept ws t = kept_set ws (net_at_words t 7) _ (λ i o d. omega arith)

went_kept : (ws : List ℕ) (t : ℕ) → Kept ws (Edits.went ws t)
unfolding Edits.went
went_kept ws t =
    let v = next (net_word_words ws t 6) in
    let w = set ws (net_at_words t 6) v in
    let s : Kept ws w = kept_set ws (net_at_words t 6) v (λ i o d. omega arith) in
    kept_pick ws (tighten_net_words w t) w (Edits.loose v (net_word_words w t 5)) (rest_trans s (tighten_net_kept w t)) s

went_dirty_kept : (ws : List ℕ) (t : ℕ) → Kept ws (Edits.went_dirty ws t)
unfolding Edits.went_dirty
went_dirty_kept ws t =
    let v = next (dirty_stale ws) in
    let w = Graph.fewer (set ws 16 v) t in
    let s : Kept ws w = rest_trans (kept_set ws 16 v (λ i o d. omega arith)) (fewer_kept (set ws 16 v) t) in
    kept_pick ws (tighten_dirty_words w) w (Edits.loose v (dirty_capacity w)) (rest_trans s (tighten_dirty_kept w)) s

vacate_kept : (ws : List ℕ) (n : ℕ) → Kept ws (Edits.vacate ws n)
unfolding Edits.vacate give_slot
vacate_kept ws n =
    rest_trans (rest_trans (rest_trans (kept_set ws (node_at n 0) 0 (λ i o d. omega arith)) (kept_set _ (node_at n 2) 0 (λ i o d. omega arith)))
    (kept_set _ (node_at n 4) _ (λ i o d. omega arith))) (kept_set _ 8 (next n) (λ i o d. omega arith))

pub remove_kept : (ws : List ℕ) (n : ℕ) → Kept ws (Edits.remove ws n)
unfolding Edits.remove
remove_kept ws n =
    let t = node_word ws n 0 in
    eq_split (node_word ws n 2) 1 _ _ (λ w. Kept ws w)
    (λ h. rest_trans (rest_trans (vacate_kept ws n) (went_dirty_kept (Edits.vacate ws n) t)) (went_kept (Edits.went_dirty (Edits.vacate ws n) t) t))
    (λ h. rest_trans (vacate_kept ws n) (went_kept (Edits.vacate ws n) t))
