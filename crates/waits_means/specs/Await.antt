-- A node waits on a net, `awaitNet`: 11 where all waits together are W; the waiting node's net has one more pending.
use Rattle.std.specs.Prelude.{ℕ, ◌+◌, ◌*◌, ◌<◌, ◌≤◌, ◌≢◌, Bool, get_or, set}
use Rattle.std.proofs.Math.Path.{◌≡◌, refl, sym, subst}
use Rattle.std.proofs.Common.{ap, ◌∙◌, get_or-set_same, get_or-set_other, ltb-true, ltb-false}
use Rattle.std.proofs.Math.Bool.{true, false}
use mathlib.Core.List.{List, [], ◌∷◌, ◌++◌, map, map-append}
use Rattle.std.proofs.Math.ListN.{length, length-append}
use Rattle.std.proofs.Math.Seq.{map-set_same}
use Rattle.std.proofs.Math.Dec.{ltb}
use native.Mathlib.Omega.{arith}
use Rattle.std.proofs.Math.Decide.{ℕ_discrete}
use Rattle.words.specs.Left.{Left}
use Rattle.layout.specs.Layout.{node_pool, entry_pool, net_word_words, node_word, set_wait_word}
use Rattle.graph.specs.Graph
use Rattle.pools.specs.Pools.{take_wait}
use Rattle.waits.specs.Waits.{append_wait, await_net_words}
use Rattle.waits.specs.Ways.{await_ready, await_full, await_waiting}
use Rattle.waits.specs.declared.Awaited.{Awaited}
use Rattle.waits.specs.declared.Awaited.TheVariants.{Ready, Waiting, Full}
use Rattle.net_file.specs.Lists.{sum, Result, ok, refuse, need}
use Rattle.net_file.specs.Values.{Name}
use Rattle.definitions.specs.Nets.{at, filled}
use Rattle.definitions.specs.State
use Rattle.definitions.specs.State.{Wait, Net, Engine, graph_of, with_nets, with_awaiting, net_at, over_net, entries, waits}
use Rattle.definitions.specs.Visit.{Visited, acted, passed, await_net}
use Rattle.good_laws.specs.Nets.{over_length, over_part, part_at, sum_over}
use Rattle.chains.specs.Seg.{put, put_same, put_other, last, all_last, Mine, Chain}
use Rattle.chains.specs.Pools.{Pool, pool_lists}
use Rattle.chains.specs.Moves.{hung, last_not}
use Rattle.means.specs.Means.{NetIs, no_net, entries_in, waits_in, items_of, awaiting_of, Means}
use Rattle.means.specs.Frame.{Rest, OutWaits, net_keep, lists_keep, means_net, read_same}
use Rattle.graph_means.specs.Marks.{more_means}
use Rattle.good_laws.specs.Good.{Good}
use Rattle.good_means.specs.Room.{net_inside_lem, pending_room}
use Rattle.waits_means.specs.Places.{Taken, take_wait_means, take_wait_none}
use Rattle.waits_means.specs.Append.{Appended, appended, chained, pointer_at, pointer_link, append_is, not_there, hung_is}
use Rattle.waits_means.specs.Slots.{slot_net}

-- the last place of a chain is below its bound
pub last_below : {f own : ℕ → ℕ} {b s h : ℕ} {z : ℕ} (l : List ℕ) → Chain f own b s h l z → 0 < b → last l 0 < b
last_below [] c i = i
last_below {own = own} {b} {s} (d ∷ l) c i = (all_last (Mine own b s) d l c.mine).below

-- the wait v is the last on its net
unfoldable pub waited : Wait → Net → Net
waited v t = with_awaiting (t.awaiting ++ v ∷ []) t

module _ (Named : ℕ → Name → Type 0) (ws : List ℕ) (e : Engine) (m : Means Named ws e) (k : ℕ) (v : Wait) (h : k < length e.nets) where
  -- what the words are after a place was taken and put at the end of the waits on net k
  module _ (w0 w : List ℕ) (c p j : ℕ) (t : Taken ws w0 e c) (a : Appended w0 w e.pools.nodes e.pools.entries k c v.node (v.net + 1) p j) (pos : 0 < c)
      (apart : p ≢ c) (is : net_word_words w0 (k + 1) 9 ≡ p) where
    pub rests : Rest (OutWaits e.pools.nodes e.pools.entries) ws w
    rests =
        let few = m.header.few_nets in
        record {
          long = a.long ∙ t.rest.long;
          same = λ i o. a.other i (λ d. o.2 (omega arith)) (λ d. o.2 (omega arith)) (λ d. o.2 (omega arith))
              (not_there a.link i (λ d. o.1 (omega arith)) (λ z d. o.2 (omega arith))) (λ d. o.1 (omega arith)) ∙ t.rest.same i o.0;
        }

    pub net_is : NetIs w k (waited v (net_at e k))
    unfolding waited with_awaiting net_at
    net_is = let n = net_keep ws w {k = k} (λ i q. let few = m.header.few_nets in rests.same i (omega arith)) (m.nets k h) in record {
      name = n.name;
      free = n.free;
      length_is = n.length_is;
      capacity_is = n.capacity_is;
      stale_is = n.stale_is;
      pending_is = n.pending_is;
    }

    pub waits_are : Pool (waits_in w e.pools.nodes e.pools.entries) (length e.nets) (awaiting_of (over_net (waited v) k e).nets) (waits (over_net (waited v) k e))
    unfolding over_net with_nets waits net_at waited with_awaiting
    waits_are =
        let few = m.header.few_nets in
        let x = awaiting_of e.nets in
        let p1 = hung t.loose few k p (v.node, v.net + 1) h is
        (hung_is w0 w e.pools.nodes e.pools.entries k c v.node (v.net + 1) p j (length e.nets) few h pos apart a) in
        let long : length ((net_at e k).awaiting ++ v ∷ []) ≡ length (net_at e k).awaiting + 1 = length-append (net_at e k).awaiting (v ∷ []) in
        let sums : sum (map (λ (y : Net). length y.awaiting) (over_net (waited v) k e).nets) + length (net_at e k).awaiting
        ≡ sum (map (λ (y : Net). length y.awaiting) e.nets) + length ((net_at e k).awaiting ++ v ∷ []) = sum_over (λ (y : Net). length y.awaiting) (waited v) k e h in
        let total : waits e + 1 ≡ waits (over_net (waited v) k e) = omega arith in
        rw (← total) (pool_lists (put x k (x k ++ (v.node, v.net + 1) ∷ [])) (awaiting_of (set e.nets k (waited v (net_at e k)))) (λ u i. go u (ℕ_discrete u k)) p1)
      where
        put_is : awaiting_of e.nets k ++ (v.node, v.net + 1) ∷ [] ≡ map (λ u. (u.node, u.net + 1)) ((net_at e k).awaiting ++ v ∷ [])
        put_is = sym (map-append (λ u. (u.node, u.net + 1)) (net_at e k).awaiting (v ∷ []))

        go : (u : ℕ) → Dec (u ≡ k) → put (awaiting_of e.nets) k (awaiting_of e.nets k ++ (v.node, v.net + 1) ∷ []) u ≡ awaiting_of (set e.nets k (waited v (net_at e k))) u
        go u (yes d) =
            rw (d, put_same (awaiting_of e.nets) k (awaiting_of e.nets k ++ (v.node, v.net + 1) ∷ []))
            (put_is ∙ ap (λ (y : Net). map (λ u. (u.node, u.net + 1)) y.awaiting) (sym (get_or-set_same e.nets k (waited v (net_at e k)) no_net h)))
        go u (no d) = put_other (awaiting_of e.nets) k (awaiting_of e.nets k ++ (v.node, v.net + 1) ∷ []) u d
            ∙ ap (λ (y : Net). map (λ u. (u.node, u.net + 1)) y.awaiting) (sym (get_or-set_other e.nets k u (waited v (net_at e k)) no_net d))

    pub lists_same : Pool (entries_in w e.pools.nodes) (length e.nets) (items_of (over_net (waited v) k e).nets) (entries (over_net (waited v) k e))
    unfolding over_net with_nets entries net_at waited with_awaiting
    lists_same =
        let few = m.header.few_nets in
        rw (map-set_same (λ (x : Net). length x.list.items) e.nets k (waited v (net_at e k)) no_net refl)
        (pool_lists _ _ (λ u i. sym (read_same (λ (x : Net). x.list.items) e.nets k (waited v (net_at e k)) refl u))
        (lists_keep Named ws w e m (λ i q. rests.same i (omega arith)) (λ i q. rests.same i (omega arith)) (λ i q. rests.same i (omega arith))))

-- what became of the wait on the words is what level Engine says: the words mean its engine, or both have no wait left
abbrev pub Agrees : (ℕ → Name → Type 0) → Left Awaited → Result Visited → Type 0
Agrees Named l (ok (acted e)) = ⊥
Agrees Named l (ok (passed e)) = (l.is ≡ Waiting) × Means Named l.ws e
Agrees Named l (refuse r) = (l.is ≡ Full) × (r ≡ 11)

module _ (Named : ℕ → Name → Type 0) (ws : List ℕ) (e : Engine) (m : Means Named ws e) (k n : ℕ) (h : k < length e.nets) where
  -- a net at 0 is not waited on
  pub await_net_ready : (net_at e k).pending ≡ 0 → await_net_words ws (k + 1) n ≡ record { is = Ready; ws = ws }
  unfolding net_at
  await_net_ready z = sym (await_ready ws (k + 1) n (net_word_words ws (k + 1) 7) refl ((m.nets k h).pending_is ∙ z))

  module _ (there : filled (graph_of e) n ≡ true) (own : (at (graph_of e) n).net < length e.nets) (small : (net_at e (at (graph_of e) n).net).pending < 4294967295)
      (above : (net_at e k).pending ≢ 0) where
    unfoldable pub v : Wait
    v = record { node = n; net = (at (graph_of e) n).net }

    pub above_words : net_word_words ws (k + 1) 7 ≢ 0
    unfolding net_at
    above_words z = above (sym (m.nets k h).pending_is ∙ z)

    pub full : e.pools.waits ≤ waits e → (await_net_words ws (k + 1) n).is ≡ Full
    full f =
        let t = take_wait_none Named ws e m f in
        ap (λ (l : Left Awaited). l.is) (sym (await_full ws (take_wait ws).ws (k + 1) n (net_word_words ws (k + 1) 7) (take_wait ws).is refl above_words refl refl t.0))
