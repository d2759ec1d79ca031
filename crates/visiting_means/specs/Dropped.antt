-- An entry is taken from the dirty list: a stale one is dropped, a live one is marked clean for its visit; what holds of a run holds on.
use Rattle.std.specs.Prelude.{ℕ, ◌+◌, ◌-◌, ◌<◌, ◌≡◌, true, set}
use Rattle.std.proofs.Math.Path.{refl, sym, ap, subst}
use Rattle.std.proofs.Common.{◌∙◌}
use Rattle.std.proofs.Math.Bool.{false}
use Rattle.std.proofs.Math.Option.{none}
use mathlib.Core.List.Memᴰ
use mathlib.Core.List.{List, [], ◌∷◌, ◌++◌, Memᴰ}
use Rattle.std.proofs.Math.ListN.{length, get_or, length-append}
use Rattle.std.proofs.Math.Seq.{get_or-set_other}
use native.Mathlib.Omega.{arith}
use Rattle.net_file.specs.Values.{FlatNet, File}
use Rattle.definitions.specs.Nets.{at, filled}
use Rattle.definitions.specs.State.{Engine, graph_of, with_slots, with_dirty, with_mark, with_stale, net_at}
use Rattle.definitions.specs.Books.{is_dirty}
use Rattle.definitions.specs.Run.{with_items}
use Rattle.dirty_laws.specs.Listed.{listed_dropped}
use Rattle.good_laws.specs.Owners.{owners, net_of}
use Rattle.good_laws.specs.Good.{Good, bump, rest}
use Rattle.good_laws.specs.Turned.{taken_good, dropped_good}
use Rattle.good_laws.specs.Turn.{is_some_lem}
use Rattle.reached_laws.specs.Tracks.{filled_owner}
use Rattle.layout.specs.Layout.{less, dirty_length, dirty_stale, node_at, set_node_word}
use Rattle.means.specs.Frame.{rest_trans}
use Rattle.graph_means.specs.Marks.{mark_means}
use Rattle.held_names.specs.Named.{Named}
use Rattle.names_means.specs.Kept.{past, before}
use Rattle.graft_means.specs.Held.{called_kept}
use Rattle.run_means.specs.Taken.{pop_means, dropped_means}
use Rattle.run_means.specs.Turn.{popped}
use Rattle.acts_means.specs.Holds.{Holds, During}

module _ (s : List ℕ) (f : File FlatNet) (ws : List ℕ) (e : Engine) (h : Holds s f rest ws e) where
  good : Good rest e
  good = h.kept.0

  -- a dirty number is a node's
  pub dirty_there : (n : ℕ) → is_dirty e n ≡ true → filled (graph_of e) n ≡ true
  unfolding is_dirty
  dirty_there n d = filled_owner (graph_of e) n ∙ good.slotted.marked n d

  module _ (xs : List ℕ) (n : ℕ) (last : e.dirty.items ≡ xs ++ n ∷ []) where
    -- an entry is a slot's number
    pub entry_inside : n < e.pools.nodes
    entry_inside = good.dirty.slots n (subst (Memᴰ n) (sym last) (Memᴰ.append_right xs (Memᴰ.head refl)))

    -- a stale entry counts
    stale_counts : is_dirty e n ≡ false → 0 < e.dirty.stale
    unfolding is_dirty
    stale_counts d =
        let a = good.dirty.counted in
        let b = (listed_dropped e.pools.nodes (λ i. get_or e.slots.marks i false) e.dirty xs n good.dirty last d).counted in
        let c : length e.dirty.items ≡ length xs + 1 = ap (λ (l : List ℕ). length l) last ∙ length-append xs (n ∷ []) in
        omega arith

    pub dropped_holds : is_dirty e n ≡ false
        → Holds s f rest (set (popped ws) 16 (less (dirty_stale (popped ws)))) (with_dirty (with_stale (e.dirty.stale - 1) (with_items xs e).dirty) (with_items xs e))
    unfolding with_items with_dirty net_at is_dirty
    dropped_holds d =
        let v = less (dirty_length ws) in
        let u = less (dirty_stale (popped ws)) in
        let few = h.means.header.few_nodes in
        let half = good.dirty.half in
        let bound = good.dirty.bound in
        record {
          means = dropped_means (Named s f) (popped ws) (with_items xs e) (pop_means (Named s f) ws e h.means xs n last) (stale_counts d) (omega arith);
          none_dead = get_or-set_other (popped ws) 16 17 u 0 (omega arith) ∙ get_or-set_other ws 14 17 v 0 (omega arith) ∙ h.none_dead;
          kept = (dropped_good rest xs n e good last d, h.kept.1, h.kept.2);
          waited = h.waited;
          places = (
            λ k a z. h.places.0 k a (sym (get_or-set_other ws 14 (node_at k 1) v 0 (omega arith)) ∙ sym (get_or-set_other (popped ws) 16 (node_at k 1) u 0 (omega arith)) ∙ z),
            λ j y i t. get_or-set_other (popped ws) 16 (node_at y.free 1) u 0 (omega arith) ∙ get_or-set_other ws 14 (node_at y.free 1) v 0 (omega arith) ∙ h.places.1 j y i t,
          );
          rules = h.rules;
          limit = h.limit;
          called = called_kept ws (set (popped ws) 16 u) e (with_dirty (with_stale (e.dirty.stale - 1) (with_items xs e).dirty) (with_items xs e))
              (rest_trans (before ws 14 v (omega arith)) (before (popped ws) 16 u (omega arith))) refl h.called;
        }

    -- the words and the engine that a visit begins with
    abbrev pub seen_words : List ℕ
    seen_words = set_node_word (popped ws) n 2 0

    abbrev pub seen_engine : Engine
    seen_engine = with_mark n false (with_items xs e)

    module _ (k : ℕ) (own : (at (graph_of e) n).net ≡ k) (d : is_dirty e n ≡ true) where
      taken : Good (bump k rest) seen_engine
      unfolding is_dirty
      taken =
          let o = is_some_lem (get_or (owners (graph_of e)) n none) (good.slotted.marked n d) in
          subst (λ (j : ℕ). Good (bump j rest) seen_engine) (sym (net_of (graph_of e) n o.0 o.1) ∙ own) (taken_good rest xs n o.0 e good last d o.1)

      pub taken_during : During s f k seen_engine seen_words seen_engine
      unfolding with_items with_dirty with_mark with_slots net_at
      taken_during =
          let v = less (dirty_length ws) in
          record {
            holds = record {
              means = mark_means (Named s f) (popped ws) (with_items xs e) (pop_means (Named s f) ws e h.means xs n last) n 0 false entry_inside refl;
              none_dead = get_or-set_other (popped ws) (node_at n 2) 17 0 0 (omega arith) ∙ get_or-set_other ws 14 17 v 0 (omega arith) ∙ h.none_dead;
              kept = (taken, h.kept.1, h.kept.2);
              waited = h.waited;
              places = (
                λ i a z. h.places.0 i a (sym (get_or-set_other ws 14 (node_at i 1) v 0 (omega arith)) ∙ sym (get_or-set_other (popped ws) (node_at n 2) (node_at i 1) 0 0 (omega arith)) ∙ z),
                λ j y i t. get_or-set_other (popped ws) (node_at n 2) (node_at y.free 1) 0 0 (omega arith) ∙ get_or-set_other ws 14 (node_at y.free 1) v 0 (omega arith) ∙ h.places.1 j y i t,
              );
              rules = h.rules;
              limit = h.limit;
              called = called_kept ws seen_words e seen_engine (rest_trans (before ws 14 v (omega arith)) (past (popped ws) (node_at n 2) 0 (omega arith))) refl h.called;
            };
            still = refl;
          }
