-- A run that has come to rest: with an empty dirty list no node is dirty, and what is pending are the waits that a net's nodes made.
use Rattle.std.specs.Prelude.{ℕ, ◌+◌, ◌<◌, ◌≡◌, refl, Bool, true, false, ◌&&◌, length, get_or}
use Rattle.std.proofs.Common.{sym, ap, ◌∙◌, subst, arith}
use Rattle.std.proofs.Math.Option.{none}
use mathlib.Core.List.Memᴰ
use mathlib.Core.List.{List, [], Memᴰ}
use Rattle.definitions.specs.State.{Engine, graph_of, net_at}
use Rattle.dirty_laws.specs.Tally.{tally_none}
use Rattle.good_laws.specs.Owners.{owners, is_of}
use Rattle.good_laws.specs.Good.{Good, waits_of}

module _ (x : ℕ → ℕ) (e : Engine) (g : Good x e) (empty : e.dirty.items ≡ []) where
  -- no slot is marked
  pub quiet_clean : (n : ℕ) → get_or e.slots.marks n false ≡ false
  quiet_clean n = go (get_or e.slots.marks n false) refl
    where
      go : (t : Bool) → get_or e.slots.marks n false ≡ t → get_or e.slots.marks n false ≡ false
      go true h = absurd (Memᴰ.not-nil (subst (Memᴰ n) empty (g.dirty.there n h)))
      go false h = h

  -- and no entry is stale
  pub quiet_stale : e.dirty.stale ≡ 0
  quiet_stale =
      let c = g.dirty.counted in
      let q : length e.dirty.items ≡ 0 = ap length empty in
      omega arith

  -- only waits are pending
  pub quiet_pending : (k : ℕ) → k < length e.nets → (net_at e k).pending ≡ waits_of e.nets k + x k
  quiet_pending k l =
      let p = g.pending k l in
      let d = tally_none (λ n. get_or e.slots.marks n false && is_of k (get_or (owners (graph_of e)) n none)) e.pools.nodes
      (λ n h. ap (λ (b : Bool). b && is_of k (get_or (owners (graph_of e)) n none)) (quiet_clean n)) in
      omega arith
