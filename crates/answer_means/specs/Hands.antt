-- Waits in hand: the words mean an engine, and beside it the waits that are still to be answered.
use Rattle.std.specs.Prelude.{ℕ, ◌+◌, ◌<◌, ◌≤◌, ◌≡◌, refl, List, [], ◌∷◌, map, length, get_or}
use Rattle.std.proofs.Common.{sym, ap, subst, arith}
use Rattle.std.proofs.lemmas.List.{length-map}
use Rattle.layout.specs.Layout.{wait_word}
use Rattle.pools.specs.Pools.{give_wait}
use Rattle.net_file.specs.Values.{Name}
use Rattle.definitions.specs.State.{Wait, Pools, Engine, net_at, waits}
use Rattle.good_laws.specs.Nets.{part_at}
use Rattle.good_laws.specs.Answers.{awaits, awaits_waits}
use Rattle.waiter_laws.specs.Waiters.{awaits_length}
use Rattle.hands.specs.Hand.{Held, held_none, held_done, held_same, held_lists, held_first}
use Rattle.hands.specs.Grasp.{given}
use Rattle.means.specs.Means.{waits_in, awaiting_of, Means}
use Rattle.means.specs.Frame.{Rest, waits_keep}
use Rattle.waits_means.specs.Places.{give_is, give_rest}
use Rattle.aside_means.specs.Both.{InWaits}
use Rattle.aside_means.specs.Aside.{Aside, bare, aside, aside_waits, means_again}

-- waits as the words have them: node, and net and one more
abbrev pub in_words : List Wait → List (ℕ × ℕ)
in_words ws = map (λ w. (w.node, w.net + 1)) ws

-- the places from h on are none of the nets', and have the waits y
abbrev pub InHand : List ℕ → Engine → ℕ → List Wait → Type 0
InHand ws e h y = Held (waits_in ws e.pools.nodes e.pools.entries) (length e.nets) (awaiting_of e.nets) h (in_words y) 0 (waits e)

-- the words mean e, and the waits y are in hand from place h on
pub record Answering (Named : ℕ → Name → Type 0) (ws : List ℕ) (e : Engine) (h : ℕ) (y : List Wait) : Type 0 where
  pub beside : Aside Named ws e
  pub hand : InHand ws e h y
  pub used : get_or ws 13 0 ≤ e.pools.waits

module _ {Named : ℕ → Name → Type 0} {ws : List ℕ} {e : Engine} where
  -- none in hand
  pub begin_answers : Means Named ws e → Answering Named ws e 0 []
  begin_answers m = record { beside = aside m; hand = held_none 0 m.waits_are; used = m.used.waits }

  pub end_answers : {h : ℕ} → Answering Named ws e h [] → Means Named ws e
  end_answers a = means_again (bare a.beside) a.used (held_done a.hand)

  -- not more than W
  pub few_in_hand : {h : ℕ} (y : List Wait) → Answering Named ws e h y → length y + waits e ≤ e.pools.waits
  few_in_hand y a =
      let l : length (in_words y) ≡ length y = length-map y (λ w. (w.node, w.net + 1)) in
      let s = a.hand.all in
      let u = a.used in
      omega arith

-- ---- what leaves the waits alone

hand_kept : (ws w : List ℕ) (e : Engine) (h : ℕ) (y : List Wait) → length e.nets ≤ 256 → Rest (InWaits e.pools.nodes e.pools.entries) ws w → InHand ws e h y → InHand w e h y
hand_kept ws w e h y few r k =
    held_same (waits_keep ws w e.pools.nodes e.pools.entries few (λ i p. r.same i (λ o. o.0 p)) (λ i p. r.same i (λ o. o.1 p)) (λ i p. r.same i (λ o. o.2 p))) k

pub hand_engine : (ws : List ℕ) (e e' : Engine) (h : ℕ) (y : List Wait) → e'.pools ≡ e.pools → awaits e' ≡ awaits e → InHand ws e h y → InHand ws e' h y
unfolding net_at
hand_engine ws e e' h y p a k =
    let x : Held (waits_in ws e.pools.nodes e.pools.entries) (length e.nets) (awaiting_of e'.nets) h (in_words y) 0 (waits e)
    = held_lists (awaiting_of e.nets) (awaiting_of e'.nets) (λ t i. ap in_words (sym (part_at (λ u. u.awaiting) e e' a t))) k in
    subst (λ (q : Pools). Held (waits_in ws q.nodes q.entries) (length e'.nets) (awaiting_of e'.nets) h (in_words y) 0 (waits e')) (sym p)
    (rw (awaits_length e e' a, awaits_waits e e' a) x)

-- words and engine go on, the waits aside
pub answering_on : {Named : ℕ → Name → Type 0} {ws : List ℕ} {e : Engine} {h : ℕ} {y : List Wait} (w : List ℕ) (e' : Engine) → Answering Named ws e h y → Aside Named w e'
    → Rest (InWaits e.pools.nodes e.pools.entries) ws w → e'.pools ≡ e.pools → awaits e' ≡ awaits e → Answering Named w e' h y
answering_on {ws = ws} {e} {h} {y} w e' a b r p s = record {
  beside = b;
  hand = hand_engine w e e' h y p s (hand_kept ws w e h y (bare a.beside).header.few_nets r a.hand);
  used = let c = r.same 13 (λ o. o.0 (omega arith)) in let u = a.used in rw p (omega arith);
}

-- ---- the first place is given back

module _ {Named : ℕ → Name → Type 0} {ws : List ℕ} {e : Engine} {c : ℕ} {v : Wait} {y : List Wait} (a : Answering Named ws e c (v ∷ y)) where
  -- what the words say of it
  pub first_node : wait_word ws c 0 ≡ v.node
  first_node =
      let b = (bare a.beside).header in
      rw (b.nodes, b.entries) (ap (λ (p : ℕ × ℕ). p.0) (held_first a.hand).2)

  pub first_net : wait_word ws c 1 ≡ v.net + 1
  first_net =
      let b = (bare a.beside).header in
      rw (b.nodes, b.entries) (ap (λ (p : ℕ × ℕ). p.1) (held_first a.hand).2)

  pub first_place : 0 < c
  first_place = (held_first a.hand).0

  pub give_answering : Answering Named (give_wait ws c) e (wait_word ws c 2) y
  give_answering =
      let b = (bare a.beside).header in
      let f = held_first a.hand in
      let i = f.1 in
      let u = a.used in
      let long = b.long in
      let g = give_is ws e.pools.nodes e.pools.entries e.pools.waits (length e.nets) c long b.nodes b.entries b.few_nets f.0 (omega arith) in
      let r = give_rest ws e.pools.nodes e.pools.entries e.pools.waits (length e.nets) c long b.nodes b.entries b.few_nets f.0 (omega arith) in
      record {
        beside = aside_waits (give_wait ws c) e a.beside r refl refl;
        hand = rw (b.nodes, b.entries) (given a.hand b.few_nets g);
        used = let k = g.used in omega arith;
      }
