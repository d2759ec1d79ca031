-- Where the books agree (`Good`), a node that is there can be removed: no number of the books wraps.
use Rattle.std.specs.Prelude.{ℕ, ◌<◌, ◌≤◌, ◌≡◌, Bool, true, ◌&&◌, List, length, get_or}
use Rattle.std.proofs.Common.{sym, ◌∙◌}
use Rattle.std.proofs.Math.Path.{ap}
use Rattle.std.proofs.Math.Bool.{false}
use Rattle.std.proofs.Math.Option.{Option, none, some}
use Rattle.std.proofs.Math.Dec.{eqb}
use native.Mathlib.Omega.{arith}
use Rattle.net_file.specs.Lists.{bit}
use Rattle.net_file.specs.Values.{Name}
use Rattle.definitions.specs.State.{Engine, graph_of, net_at}
use Rattle.definitions.specs.Books.{is_dirty}
use Rattle.dirty_laws.specs.Tests.{eqb_self}
use Rattle.good_laws.specs.Owners.{owners}
use Rattle.good_laws.specs.Good.{Good}
use Rattle.good_laws.specs.Marks.{below_slots}
use Rattle.good_laws.specs.Removals.{gone_dirty}
use Rattle.means.specs.Means.{Means}
use Rattle.good_means.specs.Room.{listed_room, pending_room}
use Rattle.removal_means.specs.Remove.{CanRemove}

module _ (Named : ℕ → Name → Type 0) (ws : List ℕ) (e : Engine) (m : Means Named ws e) (x : ℕ → ℕ) (g : Good x e) (n k : ℕ)
    (there : get_or (owners (graph_of e)) n none ≡ some k) where
  here : k < length e.nets
  here = g.slotted.owned n k there

  -- a dirty node counts
  some_pending : is_dirty e n ≡ true → 0 < (net_at e k).pending
  unfolding is_dirty
  some_pending d =
      let p = g.pending k here in
      let q = gone_dirty e.pools.nodes (length e.nets) (owners (graph_of e)) e.slots.marks e.slots.chain g.slotted n k there k in
      let u : bit (get_or e.slots.marks n false && eqb k k) ≡ bit (eqb k k) = ap (λ (b : Bool). bit (b && eqb k k)) d in
      let v : bit (eqb k k) ≡ 1 = ap bit (eqb_self k) in
      omega arith

  -- every node that is there can be removed
  pub can_remove : x k ≤ 4294900000 → CanRemove e n k
  can_remove b =
      let few = m.header.few_nodes in
      let own = listed_room e.pools.nodes _ (net_at e k).list (g.lists k here) in
      let all = listed_room e.pools.nodes _ e.dirty g.dirty in
      let p = pending_room Named ws e m x g k here in
      record {
        there = there;
        slot = below_slots g.slotted n k there;
        net = here;
        taken = λ i. some_none (sym there ∙ (g.slotted.vacant n i).1);
        stale = omega arith;
        inside = (g.lists k here).slots;
        pending = some_pending;
        small = omega arith;
        dirty_stale = omega arith;
        dirty_inside = g.dirty.slots;
      }
    where
      some_none : ◌≡◌ {A = Option ℕ} (some k) none → ⊥
      some_none q = let z : ◌≡◌ {A = ℕ} 0 1 = cc in omega arith
