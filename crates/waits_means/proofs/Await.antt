-- A node waits on a net, `awaitNet`: 11 where all waits together are W; the waiting node's net has one more pending.
use Rattle.std.specs.Prelude.{ℕ, ◌+◌, ◌*◌, ◌<◌, ◌≤◌, ◌≢◌, Bool, get_or, set}
use Rattle.std.proofs.Math.Path.{◌≡◌, refl, sym, subst}
use Rattle.std.proofs.Common.{ap, ◌∙◌, get_or-set_same, get_or-set_other, ltb-true, ltb-false}
use Rattle.std.proofs.Math.Bool.{true, false}
use mathlib.Core.List.{List, [], ◌∷◌, ◌++◌, map, map-append}
use Rattle.std.proofs.Math.ListN.{length, length-append}
use Rattle.std.proofs.Math.Seq.{map-set_same}
use Rattle.std.proofs.Math.Dec.{ltb}
use native.Mathlib.Omega.{arith}
use Rattle.std.proofs.Math.Decide.{ℕ_discrete}
use Rattle.words.specs.Left.{Left}
use Rattle.layout.specs.Layout.{node_pool, entry_pool, net_word_words, node_word, set_wait_word}
use Rattle.graph.specs.Graph
use Rattle.pools.specs.Pools.{take_wait}
use Rattle.waits.specs.Waits.{append_wait, await_net_words}
use Rattle.waits.specs.Ways.{await_ready, await_full, await_waiting}
use Rattle.waits.specs.declared.Awaited.{Awaited}
use Rattle.waits.specs.declared.Awaited.TheVariants.{Ready, Waiting, Full}
use Rattle.net_file.specs.Lists.{sum, Result, ok, refuse, need}
use Rattle.net_file.specs.Values.{Name}
use Rattle.definitions.specs.Nets.{at, filled}
use Rattle.definitions.specs.State
use Rattle.definitions.specs.State.{Wait, Net, Engine, graph_of, with_nets, with_awaiting, net_at, over_net, entries, waits}
use Rattle.definitions.specs.Visit.{Visited, acted, passed, await_net}
use Rattle.good_laws.specs.Nets.{over_length, over_part, part_at, sum_over}
use Rattle.chains.specs.Seg.{put, put_same, put_other, last, all_last, Mine, Chain}
use Rattle.chains.specs.Pools.{Pool, pool_lists}
use Rattle.chains.specs.Moves.{hung, last_not}
use Rattle.means.specs.Means.{NetIs, no_net, entries_in, waits_in, items_of, awaiting_of, Means}
use Rattle.means.specs.Frame.{Rest, OutWaits, net_keep, lists_keep, means_net, read_same}
use Rattle.graph_means.specs.Marks.{more_means}
use Rattle.good_laws.specs.Good.{Good}
use Rattle.good_means.specs.Room.{net_inside_lem, pending_room}
use Rattle.waits_means.specs.Places.{Taken, take_wait_means, take_wait_none}
use Rattle.waits_means.specs.Append.{Appended, appended, chained, pointer_at, pointer_link, append_is, not_there, hung_is}
use Rattle.waits_means.specs.Slots.{slot_net}
use Rattle.waits_means.specs.Await.{last_below, waited, rests, net_is, waits_are, lists_same, Agrees, v, above_words, full}

module _ (Named : ℕ → Name → Type 0) (ws : List ℕ) (e : Engine) (m : Means Named ws e) (k : ℕ) (v : Wait) (h : k < length e.nets) where
  -- what the words are after a place was taken and put at the end of the waits on net k
  module _ (w0 w : List ℕ) (c p j : ℕ) (t : Taken ws w0 e c) (a : Appended w0 w e.pools.nodes e.pools.entries k c v.node (v.net + 1) p j) (pos : 0 < c)
      (apart : p ≢ c) (is : net_word_words w0 (k + 1) 9 ≡ p) where
    put_means : Means Named w (over_net (waited v) k e)
    put_means =
        let e11 = (rests Named ws e m k v h w0 w c p j t a pos apart is).same 11 (omega arith) in
        let e13 = a.other 13 (omega arith) (omega arith) (omega arith) (not_there a.link 13 (omega arith) (omega arith)) (omega arith) in
        let u = m.used.entries in
        let y = t.used in
        means_net Named ws w e m (waited v) k h (record { long = (rests Named ws e m k v h w0 w c p j t a pos apart is).long; same = λ i o. (rests Named ws e m k v h w0 w c p j t a pos apart is).same i o.2 }) (net_is Named ws e m k v h w0 w c p j t a pos apart is) (omega arith) (lists_same Named ws e m k v h w0 w c p j t a pos apart is) (waits_are Named ws e m k v h w0 w c p j t a pos apart is)

  -- a place is taken and put at the end of the waits on net k, with node and net
  pub append_wait_means : waits e < e.pools.waits
      → Means Named (append_wait (set_wait_word (set_wait_word (take_wait ws).ws (take_wait ws).is 0 v.node) (take_wait ws).is 1 (v.net + 1)) (k + 1) (take_wait ws).is) (over_net (waited v) k e)
  append_wait_means room =
      let few = m.header.few_nets in
      let w0 = (take_wait ws).ws in
      let c = (take_wait ws).is in
      let t : Taken ws w0 e c = take_wait_means Named ws e m room in
      let root = t.loose.pool.nets k h in
      let p = net_word_words w0 (k + 1) 9 in
      let j = pointer_at e.pools.nodes e.pools.entries k p in
      let u = t.used in
      let long = m.header.long in
      let l0 = t.rest.long in
      let pos : 0 < c = t.loose.mine.pos in
      let b : c < get_or w0 13 0 + 1 = t.loose.mine.below in
      let most : p < get_or w0 13 0 + 1 = rw root.tail (last_below (t.loose.pool.places k) root.chain (omega arith)) in
      let apart : p ≢ c = λ d. last_not {s = 257} root.chain (omega arith) (rw (← root.tail, d) t.loose.mine) in
      let nodes : node_pool w0 ≡ e.pools.nodes = t.rest.same 1 (omega arith) ∙ m.header.nodes in
      let entries : entry_pool w0 ≡ e.pools.entries = t.rest.same 2 (omega arith) ∙ m.header.entries in
      rw (append_is w0 e.pools.nodes e.pools.entries k c v.node (v.net + 1) pos (omega arith) nodes entries)
      (put_means w0 (chained w0 e.pools.nodes e.pools.entries k c v.node (v.net + 1) j) c p j t
      (appended w0 e.pools.nodes e.pools.entries e.pools.waits k c v.node (v.net + 1) p j (omega arith) pos (omega arith) (omega arith) apart (omega arith)
      (pointer_link e.pools.nodes e.pools.entries k p)) pos apart refl)

module _ (Named : ℕ → Name → Type 0) (ws : List ℕ) (e : Engine) (m : Means Named ws e) (k n : ℕ) (h : k < length e.nets) where
  module _ (there : filled (graph_of e) n ≡ true) (own : (at (graph_of e) n).net < length e.nets) (small : (net_at e (at (graph_of e) n).net).pending < 4294967295)
      (above : (net_at e k).pending ≢ 0) where
    one_more : waits e < e.pools.waits → ((await_net_words ws (k + 1) n).is ≡ Waiting) × Means Named (await_net_words ws (k + 1) n).ws (State.more (at (graph_of e) n).net (over_net (waited (v Named ws e m k n h there own small above)) k e))
    unfolding v waited with_awaiting
    one_more room =
        let few = m.header.few_nets in
        let w0 = (take_wait ws).ws in
        let c = (take_wait ws).is in
        let u = (at (graph_of e) n).net in
        let t : Taken ws w0 e c = take_wait_means Named ws e m room in
        let pos : 0 < c = t.loose.mine.pos in
        let net : node_word w0 n 0 ≡ u + 1 = t.rest.same (5184 + 32 * n + 0) (omega arith) ∙ slot_net Named ws e.pools.nodes (graph_of e) m.nodes n there in
        let w1 = set_wait_word w0 c 0 n in
        let w2 = set_wait_word w1 c 1 (u + 1) in
        let w3 = append_wait w2 (k + 1) c in
        let e1 = over_net (waited (v Named ws e m k n h there own small above)) k e in
        let m1 : Means Named w3 e1 = append_wait_means Named ws e m k (v Named ws e m k n h there own small above) h room in
        let same : (net_at e1 u).pending ≡ (net_at e u).pending = part_at (λ y. y.pending) e e1 (over_part (λ y. y.pending) (waited (v Named ws e m k n h there own small above)) k e (λ y. refl)) u in
        let m2 : Means Named (Graph.more w3 (u + 1)) (State.more u e1) = more_means Named w3 e1 m1 u (rw (over_length (waited (v Named ws e m k n h there own small above)) k e) own) (omega arith) in
        let is : ◌≡◌ {A = Left Awaited} (record { is = Waiting; ws = Graph.more w3 (u + 1) }) (await_net_words ws (k + 1) n)
        = await_waiting ws w0 w1 w2 w3 (Graph.more w3 (u + 1)) (k + 1) n (net_word_words ws (k + 1) 7) c (u + 1) refl (above_words Named ws e m k n h there own small above) refl refl (omega arith) (sym net) refl refl refl refl in
        subst (λ (l : Left Awaited). (l.is ≡ Waiting) × Means Named l.ws (State.more u e1)) is (refl, m2)

    -- node n waits on net k, which is above 0
    pub await_net_means : Agrees Named (await_net_words ws (k + 1) n) (await_net k n e)
    unfolding await_net v waited
    await_net_means = go (ltb (waits e) e.pools.waits) refl
      where
        go : (t : Bool) → ltb (waits e) e.pools.waits ≡ t → Agrees Named (await_net_words ws (k + 1) n) (need t 11 (ok (passed (State.more (at (graph_of e) n).net (over_net (waited (v Named ws e m k n h there own small above)) k e)))))
        go true d = one_more (ltb-true (waits e) e.pools.waits d)
        go false d = ((full Named ws e m k n h there own small above) (ltb-false (waits e) e.pools.waits d), refl)

-- where the books agree, all that is asked of the node is that it is there
pub await_net_good : (Named : ℕ → Name → Type 0) (ws : List ℕ) (e : Engine) → Means Named ws e → (x : ℕ → ℕ) → Good x e → (k n : ℕ) → k < length e.nets
    → filled (graph_of e) n ≡ true → x (at (graph_of e) n).net ≤ 4294900000 → (net_at e k).pending ≢ 0 → Agrees Named (await_net_words ws (k + 1) n) (await_net k n e)
await_net_good Named ws e m x g k n h there few above =
    let i = net_inside_lem Named ws e m x g n there in
    let p = pending_room Named ws e m x g (at (graph_of e) n).net i in
    await_net_means Named ws e m k n h there i (omega arith) above
