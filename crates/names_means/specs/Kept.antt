-- Words 64 to 1,087 say which net has which name. Lists and new nodes of a net that is one leave them alone.
use Rattle.std.specs.Prelude.{ℕ, zero, suc, ◌+◌, ◌*◌, ◌%◌, ◌<◌, ◌≤◌, ◌≡◌, refl, Bool, true, false, List, get_or, set}
use Rattle.std.proofs.Common.{◌∙◌, get_or-set_other, arith}
use Rattle.words.specs.Choose.{eq_split, lt_split, pick}
use Rattle.words.specs.Left.{Left}
use Rattle.layout.specs.Layout.{next, less, net_at_words, net_word_words, node_at, node_word, entry_at, entry_word, dirty_at, dirty_length, dirty_capacity, set_node_word, set_across, principal}
use Rattle.graph.specs.Graph.{grown, push_dirty, more, marked, mark_dirty_words, holes}
use Rattle.pools.specs.Pools.{take_fresh, take, take_slot, take_entry, give_entry}
use Rattle.lists.specs.declared.Walk.{Walk}
use Rattle.lists.specs.Lists.{put_after, count_entry, append, push_node, sift, close, sweep_from, sweep, restore_from, restore, tighten_net_words}
use Rattle.edits.specs.declared.Placed.{Placed}
use Rattle.edits.specs.declared.Placed.TheVariants.{At, Refused}
use Rattle.edits.specs.Edits.{fill, placed_in, place_node}
use Rattle.means.specs.Frame.{Rest, rest_set, rest_trans}

abbrev pub NameWords : ℕ → Type 0
NameWords i = (64 ≤ i) × (i < 1088)

-- they are as they were
abbrev pub Kept : List ℕ → List ℕ → Type 0
Kept ws w = Rest NameWords ws w

pub kept_all : (ws : List ℕ) → Kept ws ws
kept_all ws = record { long = refl; same = λ i o. refl }

-- a word past them, or before them
pub past : (ws : List ℕ) (j v : ℕ) → 1088 ≤ j → Kept ws (set ws j v)
past ws j v b = rest_set NameWords ws j v (λ i o d. omega arith)

pub before : (ws : List ℕ) (j v : ℕ) → j < 64 → Kept ws (set ws j v)
before ws j v b = rest_set NameWords ws j v (λ i o d. omega arith)

-- ---- a net's list made tight

put_after_kept : (ws : List ℕ) (t p c : ℕ) → 1 ≤ t → Kept ws (put_after ws t p c)
unfolding put_after
put_after_kept ws t p c b = eq_split p 0 _ _ (λ w. Kept ws w) (λ h. past ws (net_at_words t 2) c (omega arith)) (λ h. past ws (entry_at ws p 1) c (omega arith))

sift_kept : (ws : List ℕ) (t : ℕ) (w : Walk) → 1 ≤ t → Kept ws (sift ws t w).ws
unfolding sift give_entry
sift_kept ws t w b =
    eq_split (node_word ws (entry_word ws w.entry 0) 0) t _ _ (λ (s : Left Walk). Kept ws s.ws)
    (λ h. rest_trans (past ws (node_at (entry_word ws w.entry 0) 0) 257 (omega arith)) (put_after_kept _ t w.last w.entry b))
    (λ h. rest_trans (past ws (entry_at ws w.entry 1) (get_or ws 10 0) (omega arith)) (before _ 10 w.entry (omega arith)))

close_kept : (ws : List ℕ) (t : ℕ) (w : Walk) → 1 ≤ t → Kept ws (close ws t w)
unfolding close
close_kept ws t w b =
    rest_trans (rest_trans (rest_trans (put_after_kept ws t w.last 0 b) (past _ (net_at_words t 3) w.last (omega arith))) (past _ (net_at_words t 4) w.kept (omega arith)))
    (past _ (net_at_words t 6) 0 (omega arith))

sweep_kept : (k : ℕ) (ws : List ℕ) (t : ℕ) (w : Walk) → 1 ≤ t → Kept ws (sweep_from ws t w k)
unfolding sweep_from
sweep_kept zero ws t w b = close_kept ws t w b
sweep_kept (suc k) ws t w b = rest_trans (sift_kept ws t w b) (sweep_kept k (sift ws t w).ws t (sift ws t w).is b)

restore_kept : (k : ℕ) (ws : List ℕ) (t c : ℕ) → Kept ws (restore_from ws t c k)
unfolding restore_from
restore_kept zero ws t c = kept_all ws
restore_kept (suc k) ws t c = rest_trans (past ws (node_at (entry_word ws c 0) 0) t (omega arith)) (restore_kept k _ t _)

pub tighten_net_names : (ws : List ℕ) (t : ℕ) → 1 ≤ t → Kept ws (tighten_net_words ws t)
unfolding tighten_net_words sweep restore
tighten_net_names ws t b = rest_trans (sweep_kept (net_word_words ws t 4) ws t _ b) (restore_kept (net_word_words (sweep ws t) t 4) (sweep ws t) t _)

-- ---- a node put in

take_kept : (ws : List ℕ) (h after pool : ℕ) → h < 17 → pool < 3 → Kept ws (take ws h after pool).ws
unfolding take take_fresh
take_kept ws h after pool a b = eq_split (get_or ws h 0) 0 _ _ (λ (l : Left ℕ). Kept ws l.ws)
    (λ e. lt_split (get_or ws (9 + 2 * pool) 0) (get_or ws (1 + pool) 0) _ _ (λ (l : Left ℕ). Kept ws l.ws) (λ e. before ws (9 + 2 * pool) _ (omega arith)) (λ e. kept_all ws))
    (λ e. before ws h after (omega arith))

append_kept : (ws : List ℕ) (t n c : ℕ) → 1 ≤ t → Kept ws (append ws t n c)
unfolding append count_entry
append_kept ws t n c b =
    let w = set ws (entry_at ws c 0) n in
    rest_trans (rest_trans (rest_trans (rest_trans (rest_trans (past ws (entry_at ws c 0) n (omega arith)) (past w (entry_at w c 1) 0 (omega arith)))
    (put_after_kept _ t (net_word_words ws t 3) c b)) (past _ (net_at_words t 3) c (omega arith))) (past _ (net_at_words t 5) _ (omega arith)))
    (past _ (net_at_words t 4) _ (omega arith))

push_node_kept : (ws : List ℕ) (t n : ℕ) → 1 ≤ t → Kept ws (push_node ws t n).ws
unfolding push_node take_entry
push_node_kept ws t n b =
    let s : Kept ws (take_entry ws).ws = take_kept ws 10 (entry_word ws (get_or ws 10 0) 1) 1 (omega arith) (omega arith) in
    eq_split (take_entry ws).is 0 _ _ (λ (l : Left Bool). Kept ws l.ws) (λ h. s) (λ h. rest_trans s (append_kept (take_entry ws).ws t n (take_entry ws).is b))

pub across_names : (ws : List ℕ) (p q : ℕ) → Kept ws (set_across ws p q)
across_names ws p q = past ws (5184 + p) q (omega arith)

holes_kept : (k : ℕ) (ws : List ℕ) (p : ℕ) → Kept ws (holes ws p k)
unfolding holes
holes_kept zero ws p = kept_all ws
holes_kept (suc k) ws p = rest_trans (across_names ws p p) (holes_kept k _ (next p))

fill_kept : (ws : List ℕ) (n t name arity : ℕ) → Kept ws (fill ws n t name arity)
unfolding fill
fill_kept ws n t name arity =
    rest_trans (rest_trans (rest_trans (past ws (node_at n 0) t (omega arith)) (past _ (node_at n 1) name (omega arith))) (past _ (node_at n 3) arity (omega arith)))
    (holes_kept arity _ (principal n))

placed_kept : (p : Left Bool) (n t name arity : ℕ) → Kept p.ws (placed_in p n t name arity).ws
unfolding placed_in pick
placed_kept p n t name arity = go p.is
  where
    go : (b : Bool) → Kept p.ws (pick {A = Left Placed} b (record { is = At (record { 0 = n }); ws = fill p.ws n t name arity }) (record { is = Refused 10; ws = p.ws })).ws
    go true = fill_kept p.ws n t name arity
    go false = kept_all p.ws

pub place_node_names : (ws : List ℕ) (t name arity : ℕ) → 1 ≤ t → Kept ws (place_node ws t name arity).ws
unfolding place_node take_slot
place_node_names ws t name arity b =
    let s = take_slot ws in
    let a : Kept ws s.ws = take_kept ws 8 (node_word ws (less (get_or ws 8 0)) 4) 0 (omega arith) (omega arith) in
    let n = less s.is in
    eq_split s.is 0 _ _ (λ (l : Left Placed). Kept ws l.ws) (λ h. a)
    (λ h. rest_trans (rest_trans a (push_node_kept s.ws t n b)) (placed_kept (push_node s.ws t n) n t name arity))

-- ---- marks

-- the net of each slot is as it was
abbrev pub NetWords : ℕ → Type 0
NetWords i = (5184 ≤ i) × (i % 32 ≡ 0)

-- a mark writes no slot's net
pub mark_dirty_nets : (ws : List ℕ) (n : ℕ) → Rest NetWords ws (mark_dirty_words ws n)
unfolding mark_dirty_words marked push_dirty more
mark_dirty_nets ws n =
    let u = set_node_word ws n 2 1 in
    let v = push_dirty u n in
    eq_split (node_word ws n 2) 0 _ _ (λ (w : List ℕ). Rest NetWords ws w)
    (λ h. rest_trans (rest_trans (rest_trans (rest_trans (rest_set NetWords ws (node_at n 2) 1 (λ i o d. omega arith)) (rest_set NetWords u (dirty_at (dirty_length u)) n (λ i o d. omega arith)))
    (rest_set NetWords _ 15 _ (λ i o d. omega arith))) (rest_set NetWords _ 14 _ (λ i o d. omega arith))) (rest_set NetWords v (net_at_words (node_word v n 0) 7) _ (λ i o d. omega arith)))
    (λ h. record { long = refl; same = λ i o. refl })

-- nor a name, where the slot's net is one
pub mark_dirty_names : (ws : List ℕ) (n : ℕ) → 1 ≤ node_word ws n 0 → Kept ws (mark_dirty_words ws n)
unfolding mark_dirty_words marked push_dirty more
mark_dirty_names ws n b =
    let u = set_node_word ws n 2 1 in
    let a = set u (dirty_at (dirty_length u)) n in
    let c = set a 15 (grown (dirty_capacity u) (dirty_length u)) in
    let v = push_dirty u n in
    let net : node_word v n 0 ≡ node_word ws n 0 = get_or-set_other c 14 (node_at n 0) (next (dirty_length u)) 0 (omega arith) ∙ get_or-set_other a 15 (node_at n 0) _ 0 (omega arith)
    ∙ get_or-set_other u (dirty_at (dirty_length u)) (node_at n 0) n 0 (omega arith) ∙ get_or-set_other ws (node_at n 2) (node_at n 0) 1 0 (omega arith) in
    eq_split (node_word ws n 2) 0 _ _ (λ (w : List ℕ). Kept ws w)
    (λ h. rest_trans (rest_trans (rest_trans (rest_trans (past ws (node_at n 2) 1 (omega arith)) (past u (dirty_at (dirty_length u)) n (omega arith)))
    (before a 15 _ (omega arith))) (before c 14 _ (omega arith))) (past v (net_at_words (node_word v n 0) 7) _ (omega arith)))
    (λ h. kept_all ws)
