-- A net's waits are taken off it and put in front of those in hand: `take-waits`.
use Prim.Native.Nat.{ℕ, ◌+◌, ◌*◌, ◌<◌, ◌≤◌}
use Rattle.std.specs.Prelude.{◌≡◌, ◌≢◌}
use Rattle.std.proofs.Math.Path.{refl, ap, subst}
use Rattle.std.proofs.Common.{sym, ◌∙◌, arith}
use mathlib.Core.List.{List, [], ◌∷◌, ◌++◌, map-append}
use Rattle.std.proofs.Math.ListN.{length, get_or, set, length-set, length-map}
use Rattle.std.proofs.Math.Seq.{get_or-set_same, get_or-set_other, map-set_same}
use Rattle.std.proofs.Math.Decide.{ℕ_discrete}
use Rattle.words.specs.Left.{Left}
use Rattle.layout.specs.Layout.{node_pool, entry_pool, net_at_words, net_word_words, set_net_word, wait_at, set_wait_word}
use Rattle.waits.specs.Waits.{take_waits}
use Rattle.waits.specs.Ways.{take_none, take_some}
use Rattle.net_file.specs.Values.{Name}
use Rattle.definitions.specs.State.{Wait, Net, Engine, with_nets, with_awaiting, net_at, over_net, waits}
use Rattle.good_laws.specs.Nets.{over_length}
use Rattle.good_laws.specs.Answers.{awaits, emptied, emptied_waits}
use Rattle.chains.specs.Seg.{put, put_same, put_other, last, all_last, Mine, Chain}
use Rattle.chains.specs.Pools.{Root}
use Rattle.hands.specs.Hand.{Held, held_lists}
use Rattle.hands.specs.Grasp.{Grasped, root_none}
use Rattle.hands.proofs.Grasp.{grasped}
use Rattle.means.specs.Means.{no_net, waits_in, awaiting_of}
use Rattle.means.specs.Frame.{Rest, rest_set, rest_trans, OutWaits}
use Rattle.waits_means.specs.Places.{place}
use Rattle.aside_means.specs.Hushed.{hushed_awaiting}
use Rattle.aside_means.specs.Aside.{bare, aside_waits}
use Rattle.answer_means.specs.Hands.{in_words, Answering, hand_engine}

-- the words where net t has no waits, and its last place l is followed by h
unfoldable pub detached : List ℕ → ℕ → ℕ → ℕ → List ℕ
detached ws t l h = set_net_word (set_net_word (set_wait_word ws l 2 h) t 8 0) t 9 0

module _ (ws : List ℕ) (N E W m k h : ℕ) (long : 5216 + 32 * N + 2 * E + 3 * W ≤ length ws) (nodes : node_pool ws ≡ N) (entries : entry_pool ws ≡ E) (few : m ≤ 256) (i : k < m)
    (pos : 0 < net_word_words ws (k + 1) 9) (fits : net_word_words ws (k + 1) 9 ≤ W) where
  pub detached_is : Grasped (waits_in ws N E) (waits_in (detached ws (k + 1) (net_word_words ws (k + 1) 9) h) N E) m k h
  unfolding detached
  detached_is =
      let p = place N E (net_word_words ws (k + 1) 9) 2 in
      let w1 = set ws p h in
      let w2 = set w1 (net_at_words (k + 1) 8) 0 in
      let w3 = set w2 (net_at_words (k + 1) 9) 0 in
      let l1 : length w1 ≡ length ws = length-set ws p h in
      let l2 : length w2 ≡ length w1 = length-set w1 (net_at_words (k + 1) 8) 0 in
      let other : (j : ℕ) → j ≢ p → j ≢ net_at_words (k + 1) 8 → j ≢ net_at_words (k + 1) 9 → get_or w3 j 0 ≡ get_or ws j 0
      = λ j x y z. get_or-set_other w2 (net_at_words (k + 1) 9) j 0 0 z ∙ get_or-set_other w1 (net_at_words (k + 1) 8) j 0 0 y ∙ get_or-set_other ws p j h 0 x in
      let at : wait_at ws (net_word_words ws (k + 1) 9) 2 ≡ p = rw (nodes, entries) refl in
      subst (λ (q : ℕ). Grasped (waits_in ws N E) (waits_in (set (set (set ws q h) (net_at_words (k + 1) 8) 0) (net_at_words (k + 1) 9) 0) N E) m k h) (sym at) (record {
        used = other 13 (omega arith) (omega arith) (omega arith);
        first = other 12 (omega arith) (omega arith) (omega arith);
        heads = λ u b d. other (net_at_words (u + 1) 8) (omega arith) (omega arith) (omega arith);
        tails = λ u b d. other (net_at_words (u + 1) 9) (omega arith) (omega arith) (omega arith);
        head = get_or-set_other w2 (net_at_words (k + 1) 9) (net_at_words (k + 1) 8) 0 0 (omega arith) ∙ get_or-set_same w1 (net_at_words (k + 1) 8) 0 0 (omega arith);
        tail = get_or-set_same w2 (net_at_words (k + 1) 9) 0 0 (omega arith);
        node = λ d b c y. (other (place N E d 0) (omega arith) (omega arith) (omega arith) y, other (place N E d 1) (omega arith) (omega arith) (omega arith) y);
        after = get_or-set_other w2 (net_at_words (k + 1) 9) p 0 0 (omega arith) ∙ get_or-set_other w1 (net_at_words (k + 1) 8) p 0 0 (omega arith) ∙ get_or-set_same ws p h 0 (omega arith);
        afters = λ d b c n. other (place N E d 2) (omega arith) (omega arith) (omega arith);
      })

  pub detached_rest : Rest (OutWaits N E) ws (detached ws (k + 1) (net_word_words ws (k + 1) 9) h)
  unfolding detached
  detached_rest =
      rest_trans (rest_trans (rest_set (OutWaits N E) ws (wait_at ws (net_word_words ws (k + 1) 9) 2) h (λ j o d. o.2 (omega arith)))
      (rest_set (OutWaits N E) (set_wait_word ws (net_word_words ws (k + 1) 9) 2 h) (net_at_words (k + 1) 8) 0 (λ j o d. o.1 (omega arith))))
      (rest_set (OutWaits N E) (set_net_word (set_wait_word ws (net_word_words ws (k + 1) 9) 2 h) (k + 1) 8 0) (net_at_words (k + 1) 9) 0 (λ j o d. o.1 (omega arith)))

-- a list in words is empty only if it is
words_none : (y : List Wait) → in_words y ≡ [] → y ≡ []
words_none [] e = refl
words_none (w ∷ y) e = absurd (let z : ◌≡◌ {A = ℕ} 0 1 = cc in omega arith)

-- the last place of a chain that has one
last_mine : {f own : ℕ → ℕ} {b s h : ℕ} {z : ℕ} (l : List ℕ) → Chain f own b s h l z → h ≢ z → Mine own b s (last l 0)
last_mine [] c n = absurd (n c.seg)
last_mine {own = own} {b} {s} (d ∷ l) c n = all_last (Mine own b s) d l c.mine

module _ {Named : ℕ → Name → Type 0} {ws : List ℕ} {e : Engine} {h : ℕ} {y : List Wait} (a : Answering Named ws e h y) (k : ℕ) (i : k < length e.nets) where
  root : Root (waits_in ws e.pools.nodes e.pools.entries) a.hand.own k (a.hand.places k) (awaiting_of e.nets k)
  root = a.hand.nets k i

  -- nobody waits on net k
  none_taken : net_word_words ws (k + 1) 8 ≡ 0 → Answering Named ws (emptied k e) h ((net_at e k).awaiting ++ y)
  unfolding net_at over_net with_nets with_awaiting
  none_taken z =
      let none : (get_or e.nets k no_net).awaiting ≡ [] = words_none (get_or e.nets k no_net).awaiting (root_none root z) in
      let same : awaits (emptied k e) ≡ awaits e = map-set_same (λ (t : Net). t.awaiting) e.nets k (with_awaiting [] (get_or e.nets k no_net)) no_net (sym none) in
      rw none (record {
        beside = aside_waits ws (emptied k e) a.beside (record { long = refl; same = λ j o. refl }) refl (sym (hushed_awaiting [] k e));
        hand = hand_engine ws e (emptied k e) h y refl same a.hand;
        used = a.used;
      })

  -- they are put in front of the others
  some_taken : net_word_words ws (k + 1) 8 ≢ 0 → Answering Named (detached ws (k + 1) (net_word_words ws (k + 1) 9) h) (emptied k e) (net_word_words ws (k + 1) 8) ((net_at e k).awaiting ++ y)
  unfolding over_net with_nets net_at with_awaiting
  some_taken z =
      let b = (bare a.beside).header in
      let j : Mine a.hand.own (get_or ws 13 0 + 1) k (net_word_words ws (k + 1) 9) = rw root.tail (last_mine (a.hand.places k) root.chain z) in
      let u = a.used in
      let p = j.below in
      let long = b.long in
      let g = detached_is ws e.pools.nodes e.pools.entries e.pools.waits (length e.nets) k h long b.nodes b.entries b.few_nets i j.pos (omega arith) in
      let r = detached_rest ws e.pools.nodes e.pools.entries e.pools.waits (length e.nets) k h long b.nodes b.entries b.few_nets i j.pos (omega arith) in
      let n : length (in_words (net_at e k).awaiting) ≡ length (net_at e k).awaiting = length-map (net_at e k).awaiting (λ w. (w.node, w.net + 1)) in
      let sum : waits e ≡ length (in_words (net_at e k).awaiting) + waits (emptied k e) = rw n (emptied_waits k e) in
      let w = waits_in (detached ws (k + 1) (net_word_words ws (k + 1) 9) h) e.pools.nodes e.pools.entries in
      let front : Held w (length e.nets) (put (awaiting_of e.nets) k []) (net_word_words ws (k + 1) 8) (in_words ((net_at e k).awaiting ++ y)) 0 (waits (emptied k e))
      = rw (map-append {B = ℕ × ℕ} (λ w. (w.node, w.net + 1)) (net_at e k).awaiting y) (grasped k (waits (emptied k e)) a.hand b.few_nets i z g sum) in
      record {
        beside = aside_waits _ (emptied k e) a.beside r refl (sym (hushed_awaiting [] k e));
        hand = rw (over_length (with_awaiting []) k e) (held_lists (put (awaiting_of e.nets) k []) (awaiting_of (emptied k e).nets) (λ v n. go v (ℕ_discrete v k)) front);
        used = let q = g.used in omega arith;
      }
    where
      go : (v : ℕ) → Dec (v ≡ k) → put (awaiting_of e.nets) k [] v ≡ awaiting_of (emptied k e).nets v
      go v (yes d) = rw (d, put_same (awaiting_of e.nets) k []) (ap (λ (t : Net). in_words t.awaiting) (sym (get_or-set_same e.nets k (with_awaiting [] (net_at e k)) no_net i)))
      go v (no d) = put_other (awaiting_of e.nets) k [] v d ∙ ap (λ (t : Net). in_words t.awaiting) (sym (get_or-set_other e.nets k v (with_awaiting [] (net_at e k)) no_net d))

  -- net k's waits are in hand, before the others
  pub take_waits_means : Answering Named (take_waits ws (k + 1) h).ws (emptied k e) (take_waits ws (k + 1) h).is ((net_at e k).awaiting ++ y)
  unfolding detached
  take_waits_means = go (ℕ_discrete (net_word_words ws (k + 1) 8) 0)
    where
      go : Dec (net_word_words ws (k + 1) 8 ≡ 0) → Answering Named (take_waits ws (k + 1) h).ws (emptied k e) (take_waits ws (k + 1) h).is ((net_at e k).awaiting ++ y)
      go (yes z) =
          subst (λ (o : Left ℕ). Answering Named o.ws (emptied k e) o.is ((net_at e k).awaiting ++ y)) (take_none ws (k + 1) h (net_word_words ws (k + 1) 8) refl z) (none_taken z)
      go (no z) =
          subst (λ (o : Left ℕ). Answering Named o.ws (emptied k e) o.is ((net_at e k).awaiting ++ y))
          (take_some ws _ _ (detached ws (k + 1) (net_word_words ws (k + 1) 9) h) (k + 1) h (net_word_words ws (k + 1) 8) (net_word_words ws (k + 1) 9) refl z refl refl refl refl) (some_taken z)
