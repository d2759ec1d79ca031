-- What a function of the crate leaves on each way out, and one turn of each loop, in the words of its tests and calls.
use Rattle.std.specs.Prelude.{ℕ, zero, suc, ◌+◌, ◌-◌, ◌<◌, ◌≤◌, ◌≡◌, refl, List, true, false, get_or, set}
use Rattle.std.proofs.Common.{◌∙◌, sym, ap, get_or-set_other, not-suc-le-zero, sub-one, arith}
use Rattle.words.specs.Choose.{eq_yes, eq_no}
use Rattle.layout.specs.Layout.{next, net_at_words, net_word_words, set_net_word, node_word, set_node_word, dirty_at, entry_at, entry_word, set_entry_word}
use Rattle.graph.specs.Graph.{grown}
use Rattle.graph.specs.Ways.{set_back, grown_room}
use Rattle.pools.specs.Pools.{take_entry, give_entry}
use Rattle.lists.specs.declared.Walk.{Walk}
use Rattle.lists.specs.Lists.{put_after, count_entry, append, push_node, sift, close, sweep_from, restore_from, dirty_node, keep_dirty, sweep_dirty_from, dirty_again, restore_dirty_from}

pub count_full : (ws w x : List ℕ) (t k c g e : ℕ) → k ≡ net_word_words ws t 4 → c ≡ net_word_words ws t 5 → g ≡ grown c k → w ≡ set_net_word ws t 5 g → e ≡ next k
    → x ≡ set_net_word w t 4 e → x ≡ count_entry ws t
unfolding count_entry
count_full ws w x t k c g e ek ec eg ew ee ex = rw (ex, ew, eg, ee, ek, ec)

pub count_room : (ws x : List ℕ) (t k c e : ℕ) → k ≡ net_word_words ws t 4 → c ≡ net_word_words ws t 5 → (k ≡ c → ⊥) → e ≡ next k → x ≡ set_net_word ws t 4 e
    → x ≡ count_entry ws t
count_room ws x t k c e ek ec h ee ex =
    count_full ws ws x t k c (grown c k) e ek ec refl (sym (rw (grown_room c k h, ec) (set_back ws (net_at_words t 5)))) ee ex

-- the entry's two words stand side by side, whatever is written to the first
pub entry_put : (ws w x : List ℕ) (n c i : ℕ) → i ≡ entry_at ws c 0 → w ≡ set ws i n → x ≡ set w (i + 1) 0 → x ≡ set_entry_word (set_entry_word ws c 0 n) c 1 0
entry_put ws w x n c i ei ew ex =
    let v : get_or w 1 0 ≡ get_or ws 1 0 = rw ew (get_or-set_other ws i 1 n 0 (omega arith)) in
    let a : i + 1 ≡ entry_at w c 1 = omega arith in
    let u : w ≡ set_entry_word ws c 0 n = ew ∙ ap (λ (j : ℕ). set ws j n) ei in
    rw (ex, a, u)

pub push_none : (ws w : List ℕ) (t n c : ℕ) → c ≡ (take_entry ws).is → w ≡ (take_entry ws).ws → c ≡ 0 → record { is = false; ws = w } ≡ push_node ws t n
unfolding push_node
push_none ws w t n c ec ew z = eq_yes _ _ _ _ (rw (← ec) z) (rw ew)

pub push_there : (ws w x : List ℕ) (t n c : ℕ) → c ≡ (take_entry ws).is → w ≡ (take_entry ws).ws → (c ≡ 0 → ⊥) → x ≡ append w t n c
    → record { is = true; ws = x } ≡ push_node ws t n
unfolding push_node
push_there ws w x t n c ec ew z ex = eq_no _ _ _ _ (λ e. z (rw ec e)) (rw (ex, ew, ec))

pub sift_kept : (ws w x : List ℕ) (t n after m k : ℕ) (s : Walk) → n ≡ entry_word ws s.entry 0 → after ≡ entry_word ws s.entry 1 → m ≡ node_word ws n 0
    → m ≡ t → w ≡ set_node_word ws n 0 257 → x ≡ put_after w t s.last s.entry → k ≡ next s.kept
    → record { is = record { entry = after; last = s.entry; kept = k }; ws = x } ≡ sift ws t s
unfolding sift
sift_kept ws w x t n after m k s en ea em h ew ex ek = eq_yes _ _ _ _ (rw (← en, ← em) h) (rw (ex, ew, ek, ea, en))

pub sift_dropped : (ws w : List ℕ) (t n after m : ℕ) (s : Walk) → n ≡ entry_word ws s.entry 0 → after ≡ entry_word ws s.entry 1 → m ≡ node_word ws n 0
    → (m ≡ t → ⊥) → w ≡ give_entry ws s.entry → record { is = record { entry = after; last = s.last; kept = s.kept }; ws = w } ≡ sift ws t s
unfolding sift
sift_dropped ws w t n after m s en ea em h ew = eq_no _ _ _ _ (λ e. h (rw (em, en) e)) (rw (ew, ea))

pub sweep_more : (ws w : List ℕ) (t : ℕ) (s s' : Walk) (k : ℕ) (x : List ℕ) → sweep_from ws t s k ≡ x → 0 < k → s' ≡ (sift ws t s).is → w ≡ (sift ws t s).ws
    → sweep_from w t s' (k - 1) ≡ x
unfolding sweep_from
sweep_more ws w t s s' zero x e h es ew = absurd (not-suc-le-zero h)
sweep_more ws w t s s' (suc k) x e h es ew = rw (sub-one, es, ew) e

pub sweep_done : (ws w : List ℕ) (t : ℕ) (s : Walk) (k : ℕ) (x : List ℕ) → sweep_from ws t s k ≡ x → k ≤ 0 → w ≡ close ws t s → w ≡ x
unfolding sweep_from
sweep_done ws w t s zero x e h ew = ew ∙ e
sweep_done ws w t s (suc k) x e h ew = absurd (not-suc-le-zero h)

pub restore_more : (ws w : List ℕ) (t c d k n : ℕ) (x : List ℕ) → restore_from ws t c k ≡ x → 0 < k → n ≡ entry_word ws c 0 → w ≡ set_node_word ws n 0 t
    → d ≡ entry_word w c 1 → restore_from w t d (k - 1) ≡ x
unfolding restore_from
restore_more ws w t c d zero n x e h en ew ed = absurd (not-suc-le-zero h)
restore_more ws w t c d (suc k) n x e h en ew ed = rw (sub-one, ed, ew, en) e

pub restore_done : (ws : List ℕ) (t c k : ℕ) (x : List ℕ) → restore_from ws t c k ≡ x → k ≤ 0 → ws ≡ x
unfolding restore_from
restore_done ws t c zero x e h = e
restore_done ws t c (suc k) x e h = absurd (not-suc-le-zero h)

pub dirty_kept : (ws w x : List ℕ) (i kept n d b k : ℕ) → n ≡ dirty_node ws i → d ≡ node_word ws n 2 → d ≡ 1 → w ≡ set_node_word ws n 2 0
    → b ≡ dirty_at kept → x ≡ set w b n → k ≡ next kept → record { is = k; ws = x } ≡ keep_dirty ws i kept
unfolding keep_dirty
dirty_kept ws w x i kept n d b k en ed h ew eb ex ek = eq_yes _ _ _ _ (rw (← en, ← ed) h) (rw (ex, ew, ek, eb, en))

pub dirty_dropped : (ws : List ℕ) (i kept n d : ℕ) → n ≡ dirty_node ws i → d ≡ node_word ws n 2 → (d ≡ 1 → ⊥)
    → record { is = kept; ws = ws } ≡ keep_dirty ws i kept
unfolding keep_dirty
dirty_dropped ws i kept n d en ed h = eq_no _ _ _ _ (λ e. h (rw (ed, en) e)) refl

pub sweep_dirty_more : (ws w : List ℕ) (i kept kept' m : ℕ) (x : List ℕ) → sweep_dirty_from ws i kept (m - i) ≡ x → i < m
    → kept' ≡ (keep_dirty ws i kept).is → w ≡ (keep_dirty ws i kept).ws → sweep_dirty_from w (i + 1) kept' (m - (i + 1)) ≡ x
unfolding sweep_dirty_from
sweep_dirty_more ws w i kept kept' m x e h ek ew = let s : m - i ≡ suc (m - (i + 1)) = omega arith in rw (ek, ew) (rw s at e)

pub sweep_dirty_done : (ws w v : List ℕ) (i kept m : ℕ) (x : List ℕ) → sweep_dirty_from ws i kept (m - i) ≡ x → m ≤ i → w ≡ set ws 14 kept → v ≡ set w 16 0 → v ≡ x
unfolding sweep_dirty_from
sweep_dirty_done ws w v i kept m x e h ew ev = let s : m - i ≡ 0 = omega arith in rw (ev, ew) (rw s at e)

pub restore_dirty_more : (ws w : List ℕ) (i m : ℕ) (x : List ℕ) → restore_dirty_from ws i (m - i) ≡ x → i < m → w ≡ dirty_again ws i
    → restore_dirty_from w (i + 1) (m - (i + 1)) ≡ x
unfolding restore_dirty_from
restore_dirty_more ws w i m x e h ew = let s : m - i ≡ suc (m - (i + 1)) = omega arith in rw ew (rw s at e)

pub restore_dirty_done : (ws : List ℕ) (i m : ℕ) (x : List ℕ) → restore_dirty_from ws i (m - i) ≡ x → m ≤ i → ws ≡ x
unfolding restore_dirty_from
restore_dirty_done ws i m x e h = let s : m - i ≡ 0 = omega arith in rw s at e
