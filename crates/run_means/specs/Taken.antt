-- "Dirty entries are taken last first": the last entry of the dirty list is taken, and a stale one is dropped.
use Rattle.std.specs.Prelude.{ℕ, ◌+◌, ◌*◌, ◌-◌, ◌/◌, ◌%◌, ◌<◌, ◌≤◌, ◌≡◌, refl, set}
use Rattle.std.proofs.Common.{sym, ◌∙◌, arith}
use Rattle.std.proofs.Math.Path.{ap}
use mathlib.Core.List.{List, [], ◌∷◌, ◌++◌}
use Rattle.std.proofs.Math.ListN.{length, get_or, length-append, get_or-append}
use Rattle.std.proofs.Math.Seq.{get_or-set_same, get_or-set_other, get_or-append_seam}
use Rattle.net_file.specs.Values.{Name}
use Rattle.definitions.specs.State.{Ids, Engine, with_dirty, with_stale}
use Rattle.definitions.specs.Run.{with_items}
use Rattle.layout.specs.Layout.{less, dirty_length, dirty_stale, dirty_at}
use Rattle.means.specs.Means.{Dirty, Means}
use Rattle.means.specs.Frame.{rest_set, OutDirty, means_dirty}

module _ (Named : ℕ → Name → Type 0) (ws : List ℕ) (e : Engine) (m : Means Named ws e) where
  module _ (xs : List ℕ) (n : ℕ) (last : e.dirty.items ≡ xs ++ n ∷ []) where
    -- how many are left
    count : less (dirty_length ws) ≡ length xs
    count =
        let a = m.dirty.length_is in
        let b = m.dirty.room in
        let c = m.header.few_nodes in
        let d : length e.dirty.items ≡ length xs + 1 = ap (λ (l : List ℕ). length l) last ∙ length-append xs (n ∷ []) in
        omega arith

    pub last_is : get_or ws (dirty_at (less (dirty_length ws))) 0 ≡ n
    last_is =
        let d : length e.dirty.items ≡ length xs + 1 = ap (λ (l : List ℕ). length l) last ∙ length-append xs (n ∷ []) in
        rw count (m.dirty.item (length xs) (omega arith) ∙ ap (λ (l : List ℕ). get_or l (length xs) 0) last ∙ get_or-append_seam xs n [] 0)

    pub pop_means : Means Named (set ws 14 (less (dirty_length ws))) (with_items xs e)
    unfolding with_items
    pop_means =
        let v = less (dirty_length ws) in
        let long = m.header.long in
        let room = m.dirty.room in
        let d : length e.dirty.items ≡ length xs + 1 = ap (λ (l : List ℕ). length l) last ∙ length-append xs (n ∷ []) in
        means_dirty Named ws (set ws 14 v) e m _ (rest_set (OutDirty e.pools.nodes) ws 14 v (λ i o q. o.0 (omega arith)))
        (record {
          room = omega arith;
          length_is = get_or-set_same ws 14 v 0 (omega arith) ∙ count;
          capacity_is = get_or-set_other ws 14 15 v 0 (omega arith) ∙ m.dirty.capacity_is;
          stale_is = get_or-set_other ws 14 16 v 0 (omega arith) ∙ m.dirty.stale_is;
          item = λ k h. get_or-set_other ws 14 (dirty_at k) v 0 (omega arith) ∙ m.dirty.item k (omega arith) ∙ ap (λ (l : List ℕ). get_or l k 0) last ∙ get_or-append xs (n ∷ []) 0 k h;
        })

  pub dropped_means : 0 < e.dirty.stale → e.dirty.stale < 4294967296 → Means Named (set ws 16 (less (dirty_stale ws))) (with_dirty (with_stale (e.dirty.stale - 1) e.dirty) e)
  unfolding with_stale
  dropped_means h b =
      let v = less (dirty_stale ws) in
      let s = m.dirty.stale_is in
      let long = m.header.long in
      means_dirty Named ws (set ws 16 v) e m _ (rest_set (OutDirty e.pools.nodes) ws 16 v (λ i o q. o.0 (omega arith)))
      (record {
        room = m.dirty.room;
        length_is = get_or-set_other ws 16 14 v 0 (omega arith) ∙ m.dirty.length_is;
        capacity_is = get_or-set_other ws 16 15 v 0 (omega arith) ∙ m.dirty.capacity_is;
        stale_is = get_or-set_same ws 16 v 0 (omega arith) ∙ omega arith;
        item = λ k i. get_or-set_other ws 16 (dirty_at k) v 0 (omega arith) ∙ m.dirty.item k i;
      })
