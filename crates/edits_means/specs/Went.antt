-- A dirty node went: its entry in the dirty list is stale, its net has one less pending, and a loose list is made tight.
use Prim.Native.Nat.{ℕ, ◌+◌, ◌*◌, ◌%◌, ◌<◌, ◌≤◌}
use Rattle.std.specs.Prelude.{◌≡◌, Bool, true, false, length, get_or, set, leb}
use Rattle.std.proofs.Math.Path.{refl}
use Rattle.std.proofs.Common.{sym, ap, ◌∙◌, subst, arith}
use mathlib.Core.List.{List, Memᴰ}
use Rattle.std.proofs.Math.Seq.{get_or-set_same, get_or-set_other}
use Rattle.words.specs.Choose.{pick, pick_true, pick_false}
use Rattle.layout.specs.Layout.{next, dirty_at, dirty_capacity, dirty_stale}
use Rattle.graph.specs.Graph
use Rattle.lists.specs.Lists.{tighten_dirty_words}
use Rattle.edits.specs.Edits
use Rattle.net_file.specs.Values.{Name}
use Rattle.definitions.specs.State
use Rattle.definitions.specs.State.{Ids, Engine, with_dirty, with_stale, with_nets, net_at, over_net}
use Rattle.definitions.specs.Books
use Rattle.definitions.specs.Books.{tighten_dirty, went_dirty}
use Rattle.means.specs.Means.{Header, Dirty, Means}
use Rattle.means.specs.Frame.{rest_set, OutDirty, means_dirty}
use Rattle.graph_means.specs.Marks.{fewer_means}
use Rattle.tighten_means.specs.Dirty.{tighten_dirty_means}

module _ (Named : ℕ → Name → Type 0) (ws : List ℕ) (e : Engine) (m : Means Named ws e) where
  -- another stale count of the dirty list
  stale_dirty_means : (v : ℕ) → Means Named (set ws 16 v) (with_dirty (with_stale v e.dirty) e)
  unfolding with_stale
  stale_dirty_means v =
      let d = m.dirty in
      let long = m.header.long in
      means_dirty Named ws (set ws 16 v) e m (with_stale v e.dirty) (rest_set (OutDirty e.pools.nodes) ws 16 v (λ i o q. o.0 (omega arith)))
      (record {
        room = d.room;
        length_is = get_or-set_other ws 16 14 v 0 (omega arith) ∙ d.length_is;
        capacity_is = get_or-set_other ws 16 15 v 0 (omega arith) ∙ d.capacity_is;
        stale_is = get_or-set_same ws 16 v 0 (omega arith);
        item = λ k h. get_or-set_other ws 16 (dirty_at k) v 0 (omega arith) ∙ d.item k h;
      })

module _ (Named : ℕ → Name → Type 0) (ws : List ℕ) (e : Engine) (m : Means Named ws e) (k : ℕ) (h : k < length e.nets) (some : 0 < (net_at e k).pending)
    (small : (net_at e k).pending < 4294967296) (few : e.dirty.stale < 4294967295) (inside : (n : ℕ) → Memᴰ n e.dirty.items → n < e.pools.nodes) where
  -- a dirty node of net k went
  pub went_dirty_means : Means Named (Edits.went_dirty ws (k + 1)) (went_dirty k e)
  unfolding Edits.went_dirty went_dirty Edits.loose Books.loose State.fewer over_net with_nets with_dirty with_stale net_at
  went_dirty_means = go (Books.loose e1.dirty) refl
    where
      v : ℕ
      v = next (dirty_stale ws)

      w1 : List ℕ
      w1 = Graph.fewer (set ws 16 v) (k + 1)

      e1 : Engine
      e1 = State.fewer k (with_dirty (with_stale (e.dirty.stale + 1) e.dirty) e)

      is : v ≡ e.dirty.stale + 1
      is = let s = m.dirty.stale_is in omega arith

      m0 : Means Named (set ws 16 v) (with_dirty (with_stale (e.dirty.stale + 1) e.dirty) e)
      m0 = subst (λ (s : ℕ). Means Named (set ws 16 v) (with_dirty (with_stale s e.dirty) e)) is (stale_dirty_means Named ws e m v)

      m1 : Means Named w1 e1
      m1 = fewer_means Named (set ws 16 v) (with_dirty (with_stale (e.dirty.stale + 1) e.dirty) e) m0 k h some small

      same : Edits.loose v (dirty_capacity w1) ≡ Books.loose e1.dirty
      same = λ i. leb (m1.dirty.capacity_is i) (2 * is i)

      go : (t : Bool) → Books.loose e1.dirty ≡ t → Means Named (pick (Edits.loose v (dirty_capacity w1)) (tighten_dirty_words w1) w1)
          (elim t as (λ _. Engine) [ true ↦ tighten_dirty e1 | false ↦ e1 ])
      go true d =
          subst (λ (w : List ℕ). Means Named w (tighten_dirty e1)) (pick_true (Edits.loose v (dirty_capacity w1)) (tighten_dirty_words w1) w1 (same ∙ d) refl)
          (tighten_dirty_means Named w1 e1 m1 inside)
      go false d = subst (λ (w : List ℕ). Means Named w e1) (pick_false (Edits.loose v (dirty_capacity w1)) (tighten_dirty_words w1) w1 (same ∙ d) refl) m1
