-- The waits on a net at 0 are answered, oldest first, `finishEditNet`: the words mean the engine after it. The places in use are
-- fuel enough for the words, as the number of waits is for the engine.
use Rattle.std.specs.Prelude.{ℕ, zero, suc, ◌+◌, ◌<◌, ◌≤◌, ◌≡◌, ◌≢◌, Bool, true, false, length, get_or, eqb}
use Rattle.std.proofs.Math.Path.{refl, subst}
use Rattle.std.proofs.Common.{sym, ap, ◌∙◌, length-append, eqb-true, arith}
use mathlib.Core.List.Memᴰ
use mathlib.Core.List.{List, [], ◌∷◌, ◌++◌, append-nil}
use Rattle.std.proofs.lemmas.List.{length-map}
use Rattle.std.proofs.lemmas.Bool.{eqb-false}
use Rattle.words.specs.Choose.{eq_yes, eq_no}
use Rattle.layout.specs.Layout.{net_word_words, wait_word}
use Rattle.pools.specs.Pools.{give_wait}
use Rattle.waits.specs.Waits
use Rattle.waits.specs.Waits.{take_waits, settle, answer_all, finish_edit_net_words}
use Rattle.waits.specs.Ways.{finish_at_zero, finish_above}
use Rattle.graph.specs.Graph
use Rattle.net_file.specs.Lists.{bit}
use Rattle.net_file.specs.Values.{Name}
use Rattle.definitions.specs.State
use Rattle.definitions.specs.State.{Wait, Pools, Engine, with_nets, with_awaiting, net_at, over_net, waits}
use Rattle.definitions.specs.Books
use Rattle.definitions.specs.Books.{finish_edit_net}
use Rattle.engine_laws.specs.Frame.{still_frame, pools_kept, fewer_still, wake_still}
use Rattle.dirty_laws.specs.Tests.{eqb_self}
use Rattle.good_laws.specs.Nets.{over_length}
use Rattle.good_laws.specs.Good.{Good, made_by, bump, good_extra}
use Rattle.good_laws.specs.Marks.{fewer_good}
use Rattle.good_laws.specs.Answers.{awaits_waits, fewer_awaits, wake_awaits, emptied, emptied_waits, made_append, wake_good}
use Rattle.good_laws.proofs.AnswersLaws.{emptied_good}
use Rattle.waiter_laws.specs.Waiters.{Waiters, Waited, awaits_length, waiters_append, waited_same, wake_waited, emptied_waited}
use Rattle.hands.specs.Hand.{held_end}
use Rattle.means.specs.Means.{Means}
use Rattle.graph_means.specs.Marks.{fewer_means}
use Rattle.good_means.specs.Room.{count_most, pending_room}
use Rattle.aside_means.specs.Aside.{bare}
use Rattle.answer_means.specs.Hands.{in_words, Answering, begin_answers, end_answers, few_in_hand, first_node, first_net, first_place, give_answering}
use Rattle.answer_means.specs.Take.{take_waits_means}
use Rattle.answer_means.specs.Wake.{settle_zero, settle_above}

-- no more to answer
all_none : (ws : List ℕ) (k : ℕ) (h : ℕ) → h ≡ 0 → answer_all ws h k ≡ ws
unfolding answer_all
all_none ws zero h z = refl
all_none ws (suc k) h z = sym (eq_yes h 0 ws (answer_all (Waits.answer ws h).ws (Waits.answer ws h).is k) z refl)

module _ {Named : ℕ → Name → Type 0} {ws : List ℕ} {e : Engine} {c : ℕ} {v : Wait} {y : List Wait} (a : Answering Named ws e c (v ∷ y))
    (i : (v.node < e.pools.nodes) × (v.net < length e.nets)) (x : ℕ → ℕ) (few : (j : ℕ) → x j ≤ 4294890000) (g : Good (bump v.net x) e) where
  below : v.net < length (Books.wake v e).nets
  below = let k = i.1 in let n = awaits_length e (Books.wake v e) (wake_awaits v e) in omega arith

  answer_is : Waits.answer ws c ≡ settle (give_wait ws c) v.node (v.net + 1) (wait_word ws c 2)
  unfolding Waits.answer
  answer_is = rw (first_node a, first_net a) refl

  -- wait v, the first in hand, is answered; its net is thereby at 0
  pub answer_zero : (net_at (Books.wake v e) v.net).pending ≡ 0
      → Answering Named (Waits.answer ws c).ws (emptied v.net (Books.wake v e)) (Waits.answer ws c).is ((net_at (Books.wake v e) v.net).awaiting ++ y)
  answer_zero z = rw answer_is (settle_zero (give_answering a) v i x few g below z)

  -- or above
  pub answer_above : (net_at (Books.wake v e) v.net).pending ≢ 0 → Answering Named (Waits.answer ws c).ws (Books.wake v e) (Waits.answer ws c).is y
  answer_above z = rw answer_is (settle_above (give_answering a) v i x few g below z)

-- by whether a number is 0
cases : (P : Engine → Type 0) (n : ℕ) (d d' : Engine) → (n ≡ 0 → P d) → (n ≢ 0 → P d') → P (elim (eqb n 0) as (λ _. Engine) [ true ↦ d | false ↦ d' ])
cases P n d d' p q = go (eqb n 0) refl
  where
    go : (t : Bool) → eqb n 0 ≡ t → P (elim t as (λ _. Engine) [ true ↦ d | false ↦ d' ])
    go true h = p (eqb-true n 0 h)
    go false h = q (eqb-false n 0 h)

emptied_pools : (k : ℕ) (e : Engine) → (emptied k e).pools.nodes ≡ e.pools.nodes
unfolding over_net with_nets
emptied_pools k e = refl

-- all waits in hand are answered, and those that come before them on the way
pub answer_all_means : (Named : ℕ → Name → Type 0) (N M : ℕ) (x : ℕ → ℕ) → ((j : ℕ) → x j ≤ 4294880000) → (f k : ℕ) (y : List Wait) (ws : List ℕ) (h : ℕ) (e : Engine)
    → f ≡ length y + waits e → length y + waits e ≤ k → e.pools.nodes ≡ N → length e.nets ≡ M → Good (λ j. x j + made_by j y) e → Waited N M e → Waiters N M y
    → Answering Named ws e h y → Means Named (answer_all ws h k) (Books.answer f y e)
unfolding answer_all Books.answer
answer_all_means Named N M x few zero k [] ws h e p q s_n s_m g w u a = rw (all_none ws k h (held_end a.hand)) (end_answers a)
answer_all_means Named N M x few (suc f) k [] ws h e p q s_n s_m g w u a = rw (all_none ws k h (held_end a.hand)) (end_answers a)
answer_all_means Named N M x few zero k (v ∷ y) ws h e p q s_n s_m g w u a = absurd (omega arith)
answer_all_means Named N M x few (suc f) zero (v ∷ y) ws h e p q s_n s_m g w u a = absurd (omega arith)
answer_all_means Named N M x few (suc f) (suc k) (v ∷ y) ws h e p q s_n s_m g w u a =
    let e₁ = Books.wake v e in
    let z : ℕ → ℕ = λ j. x j + made_by j y in
    let us = (net_at e₁ v.net).awaiting in
    let e₂ = emptied v.net e₁ in
    let b = (bare a.beside).header.few_waits in
    let hand = few_in_hand (v ∷ y) a in
    let small : (j : ℕ) → z j ≤ 4294890000 = λ j. let m = count_most (λ (t : Wait). eqb t.net j) y in let n = few j in omega arith in
    let gv : Good (bump v.net z) e = good_extra (λ j. x j + made_by j (v ∷ y)) (bump v.net z) e (λ j. omega arith) g in
    let g₁ : Good z e₁ = wake_good z v e gv in
    let s = awaits_waits e e₁ (wake_awaits v e) in
    let t = emptied_waits v.net e₁ in
    let l = length-append us y in
    let nodes : e₁.pools.nodes ≡ N = ap (λ (o : Pools). o.nodes) (pools_kept (still_frame (wake_still v e))) ∙ s_n in
    let nets : length e₁.nets ≡ M = awaits_length e e₁ (wake_awaits v e) ∙ s_m in
    let pos = first_place a in
    let first = u v (Memᴰ.head refl) in
    let i : (v.node < e.pools.nodes) × (v.net < length e.nets) = (rw s_n first.0, rw s_m first.1) in
    let w₁ = wake_waited N M v e w in
    let others : Waiters N M y = λ o m. u o (Memᴰ.tail m) in
    subst (λ (r : List ℕ). Means Named r (elim (eqb (net_at e₁ v.net).pending 0) as (λ _. Engine) [ true ↦ Books.answer f (us ++ y) e₂ | false ↦ Books.answer f y e₁ ]))
    (eq_no h 0 ws (answer_all (Waits.answer ws h).ws (Waits.answer ws h).is k) (omega arith) refl)
    (cases (λ (d : Engine). Means Named (answer_all (Waits.answer ws h).ws (Waits.answer ws h).is k) d) (net_at e₁ v.net).pending (Books.answer f (us ++ y) e₂) (Books.answer f y e₁)
    (λ n. answer_all_means Named N M x few f k (us ++ y) (Waits.answer ws h).ws (Waits.answer ws h).is e₂ (omega arith) (omega arith)
    (emptied_pools v.net e₁ ∙ nodes) (over_length (with_awaiting []) v.net e₁ ∙ nets)
    (good_extra (λ j. z j + made_by j us) (λ j. x j + made_by j (us ++ y)) e₂ (λ j. let m = made_append j us y in omega arith) (emptied_good z v.net e₁ g₁))
    (emptied_waited N M v.net e₁ w₁) (waiters_append N M us y (w₁ v.net) others) (answer_zero a i z small gv n))
    (λ n. answer_all_means Named N M x few f k y (Waits.answer ws h).ws (Waits.answer ws h).is e₁ (omega arith) (omega arith) nodes nets g₁ w₁ others (answer_above a i z small gv n)))

module _ (Named : ℕ → Name → Type 0) (ws : List ℕ) (e : Engine) (m : Means Named ws e) (x : ℕ → ℕ) (few : (j : ℕ) → x j ≤ 4294880000) (g : Good x e) (w : Waited e.pools.nodes (length e.nets) e)
    (k : ℕ) (h : k < length e.nets) where
  -- net k's waits in hand, and the places in use as fuel
  all_answered : Means Named (answer_all (take_waits ws (k + 1) 0).ws (take_waits ws (k + 1) 0).is (get_or (take_waits ws (k + 1) 0).ws 13 0)) (Books.answer (waits e) (net_at e k).awaiting (emptied k e))
  all_answered =
      let us = (net_at e k).awaiting in
      let w0 = (take_waits ws (k + 1) 0).ws in
      let c = (take_waits ws (k + 1) 0).is in
      let e₁ = emptied k e in
      let none : us ++ [] ≡ us = append-nil us in
      let a : Answering Named w0 e₁ c us = subst (λ (y : List Wait). Answering Named w0 e₁ c y) none (take_waits_means (begin_answers m) k h) in
      let n : length (in_words us) ≡ length us = length-map us (λ v. (v.node, v.net + 1)) in
      let s = a.hand.all in
      let t = emptied_waits k e in
      answer_all_means Named e.pools.nodes (length e.nets) x few (waits e) (get_or w0 13 0) us w0 c e₁ (omega arith) (omega arith) (emptied_pools k e) (over_length (with_awaiting []) k e)
      (emptied_good x k e g) (emptied_waited e.pools.nodes (length e.nets) k e w) (w k) a

  -- where net k is at 0 its waits are answered
  pub finish_edit_net_means : Means Named (finish_edit_net_words ws (k + 1)) (finish_edit_net k e)
  unfolding finish_edit_net net_at
  finish_edit_net_means =
      let is : net_word_words ws (k + 1) 7 ≡ (net_at e k).pending = (m.nets k h).pending_is in
      cases (λ (d : Engine). Means Named (finish_edit_net_words ws (k + 1)) d) (net_at e k).pending (Books.answer (waits e) (net_at e k).awaiting (emptied k e)) e
      (λ z. subst (λ (v : List ℕ). Means Named v (Books.answer (waits e) (net_at e k).awaiting (emptied k e)))
      (finish_at_zero ws (take_waits ws (k + 1) 0).ws _ (k + 1) (net_word_words ws (k + 1) 7) (take_waits ws (k + 1) 0).is (get_or (take_waits ws (k + 1) 0).ws 13 0) refl (is ∙ z) refl refl refl refl) all_answered)
      (λ z. subst (λ (v : List ℕ). Means Named v e) (finish_above ws (k + 1) (net_word_words ws (k + 1) 7) refl (λ q. z (sym is ∙ q))) m)

-- a visit of a node of net k has ended: it counts no more, and the net's waits are answered where it is thereby at 0
pub leave_means : (Named : ℕ → Name → Type 0) (ws : List ℕ) (e : Engine) → Means Named ws e → (x : ℕ → ℕ) → ((j : ℕ) → x j ≤ 4294880000) → (k : ℕ) → k < length e.nets → Good (bump k x) e
    → Waited e.pools.nodes (length e.nets) e → Means Named (finish_edit_net_words (Graph.fewer ws (k + 1)) (k + 1)) (finish_edit_net k (State.fewer k e))
leave_means Named ws e m x few k h g w =
    let p = g.pending k h in
    let r = pending_room Named ws e m (bump k x) g k h in
    let q : bit (eqb k k) ≡ 1 = ap bit (eqb_self k) in
    let f = few k in
    let m₁ : Means Named (Graph.fewer ws (k + 1)) (State.fewer k e) = fewer_means Named ws e m k h (omega arith) (omega arith) in
    let nets : length (State.fewer k e).nets ≡ length e.nets = awaits_length e (State.fewer k e) (fewer_awaits k e) in
    let nodes : (State.fewer k e).pools.nodes ≡ e.pools.nodes = ap (λ (o : Pools). o.nodes) (pools_kept (still_frame (fewer_still k e))) in
    let w₁ : Waited e.pools.nodes (length e.nets) (State.fewer k e) = waited_same e.pools.nodes (length e.nets) e (State.fewer k e) (fewer_awaits k e) w in
    finish_edit_net_means Named (Graph.fewer ws (k + 1)) (State.fewer k e) m₁ x few (fewer_good x k e g)
    (subst (λ (N : ℕ). Waited N (length (State.fewer k e).nets) (State.fewer k e)) (sym nodes) (subst (λ (M : ℕ). Waited e.pools.nodes M (State.fewer k e)) (sym nets) w₁))
    k (rw nets h)
