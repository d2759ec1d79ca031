-- What a write elsewhere keeps: each part reads its own words, and these are apart. So a change of one part's words keeps the others.
use Rattle.std.specs.Prelude.{ℕ, zero, suc, ◌+◌, ◌*◌, ◌/◌, ◌%◌, ◌<◌, ◌≤◌, ◌≡◌, refl, ◌≢◌, Bool, get_or}
use Rattle.std.proofs.Math.Path.{sym}
use Rattle.std.proofs.Common.{ap, ◌∙◌, subst, get_or-set_other, not-suc-le-zero, arith}
use Rattle.std.proofs.Math.Option.{Option, none, some}
use mathlib.Core.List.{List, [], ◌∷◌, map}
use Rattle.std.proofs.Math.ListN.{length, set, length-set, get_or-map}
use Rattle.std.proofs.Math.Seq.{get_or-set_same, map-set_same}
use Rattle.std.proofs.Math.Decide.{dec_lt, ℕ_discrete}
use Rattle.net_file.specs.Values.{Name}
use Rattle.definitions.specs.Lists.{or_else}
use Rattle.definitions.specs.Nets.{Port, Graph, arity, follow}
use Rattle.definitions.specs.State.{Ids, Wait, Net, Pools, Engine, graph_of, with_slots, with_graph, with_mark, with_dirty, with_nets, net_at, over_net, entries, waits}
use Rattle.join_laws.specs.Ports.{Frame, no_frame, frame, arity_frame, Real}
use Rattle.layout.specs.Layout.{less, node_word}
use Rattle.chains.specs.Seg.{Seg, All}
use Rattle.chains.specs.Pools.{View, Pool, Same, pool_same, pool_lists}
use Rattle.means.specs.Means.{number, Header, SlotIs, Nodes, Marks, Vacant, Dirty, NetIs, Nets, no_net, entries_in, waits_in, items_of, awaiting_of, Used, Means}
use Rattle.means.specs.Frame.{Rest, OutNet, used_keep, lists_keep, awaits_keep, means_net, read_same}

module _ (Named : ℕ → Name → Type 0) (ws w : List ℕ) (e : Engine) (m : Means Named ws e) where
  -- net k's own words are written: its list and the waits on it are as they were
  pub means_own : (f : Net → Net) (k : ℕ) → k < length e.nets → Rest (OutNet k) ws w → NetIs w k (f (net_at e k))
      → (f (net_at e k)).list.items ≡ (net_at e k).list.items → (f (net_at e k)).awaiting ≡ (net_at e k).awaiting → Means Named w (over_net f k e)
  unfolding over_net with_nets entries waits net_at
  means_own f k h r n s t =
      let b = m.header.few_nets in
      means_net Named ws w e m f k h (record { long = r.long; same = λ i o. r.same i o.0 }) n
      (used_keep Named ws w e m (λ i p. r.same i (omega arith)) (λ i p. r.same i (omega arith)))
      (rw (map-set_same (λ (x : Net). length x.list.items) e.nets k (f (net_at e k)) no_net (ap (λ (l : List ℕ). length l) s))
      (pool_lists _ _ (λ j i. sym (read_same (λ (x : Net). x.list.items) e.nets k (f (net_at e k)) s j))
      (lists_keep Named ws w e m (λ i p. r.same i (omega arith)) (λ i p. r.same i (omega arith)) (λ i p. r.same i (omega arith)))))
      (rw (map-set_same (λ (x : Net). length x.awaiting) e.nets k (f (net_at e k)) no_net (ap (λ (l : List Wait). length l) t))
      (pool_lists _ _ (λ j i. sym (read_same (λ (x : Net). map (λ v. (v.node, v.net + 1)) x.awaiting) e.nets k (f (net_at e k)) (ap (λ (l : List Wait). map (λ v. (v.node, v.net + 1)) l) t) j))
      (awaits_keep Named ws w e m (λ i p. r.same i (omega arith)) (λ i p. r.same i (omega arith)) (λ i p. r.same i (omega arith)))))
