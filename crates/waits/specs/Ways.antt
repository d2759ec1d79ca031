-- What a function of the crate leaves on each way out, and one turn of each loop, in the words of its tests and calls.
use Rattle.std.specs.Prelude.{ℕ, zero, suc, ◌-◌, ◌<◌, ◌≤◌, ◌≡◌, refl, List, get_or}
use Rattle.std.proofs.Common.{◌∙◌, not-suc-le-zero, sub-one}
use Rattle.words.specs.Choose.{eq_yes, eq_no}
use Rattle.words.specs.Left.{whole}
use Rattle.layout.specs.Layout.{net_word_words, set_net_word, node_word, set_wait_word}
use Rattle.graph.specs.Graph.{mark_dirty_words, more, fewer}
use Rattle.pools.specs.Pools.{take_wait}
use Rattle.waits.specs.Waits.{append_wait, waiting, await_net_words, take_waits, wake, settle, next_wait, answer, answer_all, finish_edit_net_words}
use Rattle.waits.specs.declared.Awaited.TheVariants.{Ready, Waiting, Full}

pub append_first : (ws w1 w2 x : List ℕ) (m c p : ℕ) → p ≡ net_word_words ws m 9 → w1 ≡ set_wait_word ws c 2 0 → p ≡ 0 → w2 ≡ set_net_word w1 m 8 c
    → x ≡ set_net_word w2 m 9 c → x ≡ append_wait ws m c
unfolding append_wait
append_first ws w1 w2 x m c p ep e1 z e2 ex = eq_yes _ _ _ _ (rw (← ep) z) (rw (ex, e2, e1))

pub append_after : (ws w1 w2 x : List ℕ) (m c p : ℕ) → p ≡ net_word_words ws m 9 → w1 ≡ set_wait_word ws c 2 0 → (p ≡ 0 → ⊥) → w2 ≡ set_wait_word w1 p 2 c
    → x ≡ set_net_word w2 m 9 c → x ≡ append_wait ws m c
unfolding append_wait
append_after ws w1 w2 x m c p ep e1 z e2 ex = eq_no _ _ _ _ (λ e. z (rw ep e)) (rw (ex, e2, e1, ep))

pub await_ready : (ws : List ℕ) (m n p : ℕ) → p ≡ net_word_words ws m 7 → p ≡ 0 → record { is = Ready; ws = ws } ≡ await_net_words ws m n
unfolding await_net_words
await_ready ws m n p ep z = eq_yes _ _ _ _ (rw (← ep) z) refl

pub await_full : (ws w : List ℕ) (m n p c : ℕ) → p ≡ net_word_words ws m 7 → (p ≡ 0 → ⊥) → c ≡ (take_wait ws).is → w ≡ (take_wait ws).ws → c ≡ 0
    → record { is = Full; ws = w } ≡ await_net_words ws m n
unfolding await_net_words
await_full ws w m n p c ep z ec ew zc = eq_no _ _ _ _ (λ e. z (rw ep e)) (eq_yes _ _ _ _ (rw (← ec) zc) (rw ew))

pub await_waiting : (ws w w1 w2 w3 x : List ℕ) (m n p c t : ℕ) → p ≡ net_word_words ws m 7 → (p ≡ 0 → ⊥) → c ≡ (take_wait ws).is → w ≡ (take_wait ws).ws
    → (c ≡ 0 → ⊥) → t ≡ node_word w n 0 → w1 ≡ set_wait_word w c 0 n → w2 ≡ set_wait_word w1 c 1 t → w3 ≡ append_wait w2 m c → x ≡ more w3 t
    → record { is = Waiting; ws = x } ≡ await_net_words ws m n
unfolding await_net_words waiting
await_waiting ws w w1 w2 w3 x m n p c t ep z ec ew zc et e1 e2 e3 ex =
    eq_no _ _ _ _ (λ e. z (rw ep e)) (eq_no _ _ _ _ (λ e. zc (rw ec e)) (rw (ex, e3, e2, e1, et, ew, ec)))

pub take_none : (ws : List ℕ) (t rest first : ℕ) → first ≡ net_word_words ws t 8 → first ≡ 0 → record { is = rest; ws = ws } ≡ take_waits ws t rest
unfolding take_waits
take_none ws t rest first ef z = eq_yes _ _ _ _ (rw (← ef) z) refl

pub take_some : (ws w1 w2 x : List ℕ) (t rest first last : ℕ) → first ≡ net_word_words ws t 8 → (first ≡ 0 → ⊥) → last ≡ net_word_words ws t 9
    → w1 ≡ set_wait_word ws last 2 rest → w2 ≡ set_net_word w1 t 8 0 → x ≡ set_net_word w2 t 9 0 → record { is = first; ws = x } ≡ take_waits ws t rest
unfolding take_waits
take_some ws w1 w2 x t rest first last ef z el e1 e2 ex = eq_no _ _ _ _ (λ e. z (rw ef e)) (rw (ex, e2, e1, el, ef))

pub wake_own : (ws x : List ℕ) (n t m : ℕ) → m ≡ node_word ws n 0 → m ≡ t → x ≡ mark_dirty_words ws n → x ≡ wake ws n t
unfolding wake
wake_own ws x n t m em e ex = eq_yes _ _ _ _ (rw (← em) e) ex

pub wake_other : (ws : List ℕ) (n t m : ℕ) → m ≡ node_word ws n 0 → (m ≡ t → ⊥) → ws ≡ wake ws n t
unfolding wake
wake_other ws n t m em e = eq_no _ _ _ _ (λ h. e (rw em h)) refl

pub settle_rest : (ws w1 w2 : List ℕ) (n t rest p : ℕ) → w1 ≡ wake ws n t → w2 ≡ fewer w1 t → p ≡ net_word_words w2 t 7 → (p ≡ 0 → ⊥)
    → record { is = rest; ws = w2 } ≡ settle ws n t rest
unfolding settle next_wait
settle_rest ws w1 w2 n t rest p e1 e2 ep z = rw (← e1, ← e2) (eq_no _ _ _ _ (λ e. z (rw ep e)) refl)

pub settle_own : (ws w1 w2 x : List ℕ) (n t rest p r : ℕ) → w1 ≡ wake ws n t → w2 ≡ fewer w1 t → p ≡ net_word_words w2 t 7 → p ≡ 0
    → r ≡ (take_waits w2 t rest).is → x ≡ (take_waits w2 t rest).ws → record { is = r; ws = x } ≡ settle ws n t rest
unfolding settle next_wait
settle_own ws w1 w2 x n t rest p r e1 e2 ep z er ex = rw (← e1, ← e2) (eq_yes _ _ _ _ (rw (← ep) z) (whole (take_waits w2 t rest) er ex))

pub answer_all_more : (ws w : List ℕ) (c r k : ℕ) (x : List ℕ) → answer_all ws c k ≡ x → 0 < k → (c ≡ 0 → ⊥) → r ≡ (answer ws c).is → w ≡ (answer ws c).ws
    → answer_all w r (k - 1) ≡ x
unfolding answer_all
answer_all_more ws w c r zero x e h z er ew = absurd (not-suc-le-zero h)
answer_all_more ws w c r (suc k) x e h z er ew = rw (sub-one, er, ew) (eq_no c 0 ws (answer_all (answer ws c).ws (answer ws c).is k) z refl ∙ e)

pub answer_all_none : (ws : List ℕ) (c k : ℕ) (x : List ℕ) → answer_all ws c k ≡ x → 0 < k → c ≡ 0 → ws ≡ x
unfolding answer_all
answer_all_none ws c zero x e h z = absurd (not-suc-le-zero h)
answer_all_none ws c (suc k) x e h z = eq_yes c 0 ws (answer_all (answer ws c).ws (answer ws c).is k) z refl ∙ e

pub answer_all_done : (ws : List ℕ) (c k : ℕ) (x : List ℕ) → answer_all ws c k ≡ x → k ≤ 0 → ws ≡ x
unfolding answer_all
answer_all_done ws c zero x e h = e
answer_all_done ws c (suc k) x e h = absurd (not-suc-le-zero h)

pub finish_at_zero : (ws w x : List ℕ) (t p c k : ℕ) → p ≡ net_word_words ws t 7 → p ≡ 0 → c ≡ (take_waits ws t 0).is → w ≡ (take_waits ws t 0).ws → k ≡ get_or w 13 0
    → x ≡ answer_all w c k → x ≡ finish_edit_net_words ws t
unfolding finish_edit_net_words
finish_at_zero ws w x t p c k ep z ec ew ek ex = eq_yes _ _ _ _ (rw (← ep) z) (rw (ex, ek, ew, ec))

pub finish_above : (ws : List ℕ) (t p : ℕ) → p ≡ net_word_words ws t 7 → (p ≡ 0 → ⊥) → ws ≡ finish_edit_net_words ws t
unfolding finish_edit_net_words
finish_above ws t p ep z = eq_no _ _ _ _ (λ e. z (rw ep e)) refl
