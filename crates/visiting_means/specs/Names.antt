-- A visit's end writes no net's name: the waits that are answered are of nets.
use Rattle.std.specs.Prelude.{ℕ, zero, suc, ◌+◌, ◌<◌, ◌≤◌, ◌≡◌, refl, length, get_or, set, eqb}
use Rattle.std.proofs.Common.{sym, ap, ◌∙◌, arith}
use Rattle.std.proofs.Math.Path.{subst}
use mathlib.Core.List.Memᴰ
use mathlib.Core.List.{List, [], ◌∷◌, ◌++◌, append-nil}
use Rattle.std.proofs.Math.Decide.{ℕ_discrete}
use Rattle.words.specs.Choose.{eq_split}
use Rattle.words.specs.Left.{Left}
use Rattle.layout.specs.Layout.{net_at_words, net_word_words, node_word, wait_at, wait_word}
use Rattle.graph.specs.Graph.{mark_dirty_words, fewer}
use Rattle.pools.specs.Pools.{give_wait}
use Rattle.waits.specs.Waits.{take_waits, wake, next_wait, settle, answer, answer_all, finish_edit_net_words}
use Rattle.run_slice.specs.Run.{leave}
use Rattle.net_file.specs.Lists.{bit}
use Rattle.net_file.specs.Values.{Name}
use Rattle.definitions.specs.State
use Rattle.definitions.specs.State.{Wait, Pools, Engine, with_nets, with_awaiting, net_at, over_net}
use Rattle.definitions.specs.Books
use Rattle.engine_laws.specs.Frame.{still_frame, pools_kept, fewer_still, wake_still}
use Rattle.dirty_laws.specs.Tests.{eqb_self}
use Rattle.good_laws.specs.Nets.{over_length}
use Rattle.good_laws.specs.Good.{Good, made_by, bump, good_extra}
use Rattle.good_laws.specs.Marks.{fewer_good}
use Rattle.good_laws.specs.Answers.{fewer_awaits, wake_awaits, emptied, made_append, wake_good}
use Rattle.good_laws.proofs.AnswersLaws.{emptied_good}
use Rattle.waiter_laws.specs.Waiters.{Waiters, Waited, awaits_length, waiters_append, waited_same, wake_waited, emptied_waited}
use Rattle.hands.specs.Hand.{held_end}
use Rattle.means.specs.Means.{Means}
use Rattle.means.specs.Frame.{rest_trans}
use Rattle.graph_means.specs.Marks.{fewer_means}
use Rattle.good_means.specs.Room.{count_most, pending_room}
use Rattle.aside_means.specs.Aside.{bare}
use Rattle.answer_means.specs.Hands.{Answering, begin_answers, few_in_hand, first_net}
use Rattle.answer_means.specs.Take.{take_waits_means}
use Rattle.answer_means.specs.Answer.{answer_zero, answer_above}
use Rattle.names_means.specs.Kept.{Kept, kept_all, past, before, mark_dirty_names}

-- ---- one wait

wake_names : (ws : List ℕ) (n t : ℕ) → 1 ≤ t → Kept ws (wake ws n t)
unfolding wake
wake_names ws n t b = eq_split (node_word ws n 0) t (mark_dirty_words ws n) ws (λ (w : List ℕ). Kept ws w) (λ q. mark_dirty_names ws n (omega arith)) (λ q. kept_all ws)

take_names : (ws : List ℕ) (t rest : ℕ) → 1 ≤ t → Kept ws (take_waits ws t rest).ws
unfolding take_waits
take_names ws t rest b = eq_split (net_word_words ws t 8) 0 _ _ (λ (l : Left ℕ). Kept ws l.ws) (λ q. kept_all ws)
    (λ q. rest_trans (rest_trans (past ws (wait_at ws (net_word_words ws t 9) 2) rest (omega arith)) (past _ (net_at_words t 8) 0 (omega arith))) (past _ (net_at_words t 9) 0 (omega arith)))

next_names : (ws : List ℕ) (t rest : ℕ) → 1 ≤ t → Kept ws (next_wait ws t rest).ws
unfolding next_wait
next_names ws t rest b = eq_split (net_word_words ws t 7) 0 _ _ (λ (l : Left ℕ). Kept ws l.ws) (λ q. take_names ws t rest b) (λ q. kept_all ws)

fewer_names : (ws : List ℕ) (t : ℕ) → 1 ≤ t → Kept ws (fewer ws t)
unfolding fewer
fewer_names ws t b = past ws (net_at_words t 7) _ (omega arith)

-- a wait of a net
answer_names : (ws : List ℕ) (c : ℕ) → 1 ≤ wait_word ws c 1 → Kept ws (answer ws c).ws
unfolding answer settle give_wait
answer_names ws c b =
    let w = set ws (wait_at ws c 2) (get_or ws 12 0) in
    let v = set w 12 c in
    let t = wait_word ws c 1 in
    let u = wake v (wait_word ws c 0) t in
    rest_trans (rest_trans (rest_trans (rest_trans (past ws (wait_at ws c 2) (get_or ws 12 0) (omega arith)) (before w 12 c (omega arith)))
    (wake_names v (wait_word ws c 0) t b)) (fewer_names u t b)) (next_names (fewer u t) t (wait_word ws c 2) b)

-- ---- all of them

emptied_pools : (k : ℕ) (e : Engine) → (emptied k e).pools.nodes ≡ e.pools.nodes
unfolding over_net with_nets
emptied_pools k e = refl

answer_all_names : (Named : ℕ → Name → Type 0) (N M : ℕ) (x : ℕ → ℕ) → ((j : ℕ) → x j ≤ 4294880000) → (k : ℕ) (y : List Wait) (ws : List ℕ) (h : ℕ) (e : Engine)
    → e.pools.nodes ≡ N → length e.nets ≡ M → Good (λ j. x j + made_by j y) e → Waited N M e → Waiters N M y → Answering Named ws e h y → Kept ws (answer_all ws h k)
unfolding answer_all
answer_all_names Named N M x few zero y ws h e s_n s_m g w u a = kept_all ws
answer_all_names Named N M x few (suc k) [] ws h e s_n s_m g w u a = eq_split h 0 ws _ (λ (r : List ℕ). Kept ws r) (λ q. kept_all ws) (λ q. absurd (q (held_end a.hand)))
answer_all_names Named N M x few (suc k) (v ∷ y) ws h e s_n s_m g w u a =
    let e₁ = Books.wake v e in
    let z : ℕ → ℕ = λ j. x j + made_by j y in
    let us = (net_at e₁ v.net).awaiting in
    let e₂ = emptied v.net e₁ in
    let b = (bare a.beside).header.few_waits in
    let hand = few_in_hand (v ∷ y) a in
    let small : (j : ℕ) → z j ≤ 4294890000 = λ j. let m = count_most (λ (t : Wait). eqb t.net j) y in let n = few j in omega arith in
    let gv : Good (bump v.net z) e = good_extra (λ j. x j + made_by j (v ∷ y)) (bump v.net z) e (λ j. omega arith) g in
    let g₁ : Good z e₁ = wake_good z v e gv in
    let nodes : e₁.pools.nodes ≡ N = ap (λ (o : Pools). o.nodes) (pools_kept (still_frame (wake_still v e))) ∙ s_n in
    let nets : length e₁.nets ≡ M = awaits_length e e₁ (wake_awaits v e) ∙ s_m in
    let first = u v (Memᴰ.head refl) in
    let i : (v.node < e.pools.nodes) × (v.net < length e.nets) = (rw s_n first.0, rw s_m first.1) in
    let w₁ = wake_waited N M v e w in
    let others : Waiters N M y = λ o m. u o (Memᴰ.tail m) in
    let net = first_net a in
    let one : Kept ws (answer ws h).ws = answer_names ws h (omega arith) in
    let more : Dec ((net_at e₁ v.net).pending ≡ 0) → Kept (answer ws h).ws (answer_all (answer ws h).ws (answer ws h).is k) = λ c. elim c [
      | yes n ↦ answer_all_names Named N M x few k (us ++ y) (answer ws h).ws (answer ws h).is e₂ (emptied_pools v.net e₁ ∙ nodes) (over_length (with_awaiting []) v.net e₁ ∙ nets)
          (good_extra (λ j. z j + made_by j us) (λ j. x j + made_by j (us ++ y)) e₂ (λ j. let m = made_append j us y in omega arith) (emptied_good z v.net e₁ g₁))
          (emptied_waited N M v.net e₁ w₁) (waiters_append N M us y (w₁ v.net) others) (answer_zero a i z small gv n)
      | no n ↦ answer_all_names Named N M x few k y (answer ws h).ws (answer ws h).is e₁ nodes nets g₁ w₁ others (answer_above a i z small gv n)
    ] in
    eq_split h 0 ws _ (λ (r : List ℕ). Kept ws r) (λ q. kept_all ws) (λ q. rest_trans one (more (ℕ_discrete (net_at e₁ v.net).pending 0)))

module _ (Named : ℕ → Name → Type 0) (ws : List ℕ) (e : Engine) (m : Means Named ws e) (x : ℕ → ℕ) (few : (j : ℕ) → x j ≤ 4294880000) (g : Good x e) (w : Waited e.pools.nodes (length e.nets) e)
    (k : ℕ) (h : k < length e.nets) where
  finish_names : Kept ws (finish_edit_net_words ws (k + 1))
  unfolding finish_edit_net_words
  finish_names =
      let us = (net_at e k).awaiting in
      let w0 = (take_waits ws (k + 1) 0).ws in
      let c = (take_waits ws (k + 1) 0).is in
      let none : us ++ [] ≡ us = append-nil us in
      let a : Answering Named w0 (emptied k e) c us = subst (λ (y : List Wait). Answering Named w0 (emptied k e) c y) none (take_waits_means (begin_answers m) k h) in
      eq_split (net_word_words ws (k + 1) 7) 0 (answer_all w0 c (get_or w0 13 0)) ws (λ (v : List ℕ). Kept ws v)
      (λ q. rest_trans (take_names ws (k + 1) 0 (omega arith)) (answer_all_names Named e.pools.nodes (length e.nets) x few (get_or w0 13 0) us w0 c (emptied k e) (emptied_pools k e)
      (over_length (with_awaiting []) k e) (emptied_good x k e g) (emptied_waited e.pools.nodes (length e.nets) k e w) (w k) a)) (λ q. kept_all ws)

-- a visit of a node of net k has ended
pub leave_names : (Named : ℕ → Name → Type 0) (ws : List ℕ) (e : Engine) → Means Named ws e → (x : ℕ → ℕ) → ((j : ℕ) → x j ≤ 4294880000) → (k : ℕ) → k < length e.nets → Good (bump k x) e
    → Waited e.pools.nodes (length e.nets) e → Kept ws (leave ws (k + 1))
unfolding leave
leave_names Named ws e m x few k h g w =
    let p = g.pending k h in
    let r = pending_room Named ws e m (bump k x) g k h in
    let q : bit (eqb k k) ≡ 1 = ap bit (eqb_self k) in
    let f = few k in
    let m₁ : Means Named (fewer ws (k + 1)) (State.fewer k e) = fewer_means Named ws e m k h (omega arith) (omega arith) in
    let nets : length (State.fewer k e).nets ≡ length e.nets = awaits_length e (State.fewer k e) (fewer_awaits k e) in
    let nodes : (State.fewer k e).pools.nodes ≡ e.pools.nodes = ap (λ (o : Pools). o.nodes) (pools_kept (still_frame (fewer_still k e))) in
    let w₁ : Waited e.pools.nodes (length e.nets) (State.fewer k e) = waited_same e.pools.nodes (length e.nets) e (State.fewer k e) (fewer_awaits k e) w in
    rest_trans (fewer_names ws (k + 1) (omega arith)) (finish_names Named (fewer ws (k + 1)) (State.fewer k e) m₁ x few (fewer_good x k e g)
    (subst (λ (N : ℕ). Waited N (length (State.fewer k e).nets) (State.fewer k e)) (sym nodes) (subst (λ (M : ℕ). Waited e.pools.nodes M (State.fewer k e)) (sym nets) w₁))
    k (rw nets h))
