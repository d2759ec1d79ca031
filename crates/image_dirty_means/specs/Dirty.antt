-- The dirty list of words that mean an engine of a run passes.
use Prim.Native.Nat.{ℕ, zero, suc, ◌+◌, ◌*◌, ◌<◌, ◌≤◌}
use Rattle.std.specs.Prelude.{◌≡◌, ◌⊎◌, Bool, true, false, ◌&&◌, not, set, replicate, eqb, ltb}
use Rattle.std.proofs.Math.Path.{refl, sym, ap, subst}
use Rattle.std.proofs.Common.{◌∙◌, inl, inr, length-set, drop-cons}
use Rattle.std.proofs.lemmas.Bool.{false≢true}
use mathlib.Core.List.{List, [], ◌∷◌}
use native.Mathlib.Omega.{arith}
use Rattle.std.proofs.Math.Decide.{ℕ_discrete}
use Rattle.std.proofs.Math.Nat.{zero-add}
use Rattle.std.proofs.Math.ListN.{length, get_or, drop, length-replicate, drop_of_length-le}
use Rattle.std.proofs.lemmas.List.{get_or-replicate}
use borrow.Author.Tests.{eq-eqb, ne_eqb, lt-ltb}
use Rattle.words.specs.Choose.{if_eq, pick, pick_true, pick_false, eq_yes, eq_no}
use Rattle.words.specs.Left.{Left}
use Rattle.net_file.specs.Lists.{bit}
use Rattle.net_file.specs.Values.{Name}
use Rattle.layout.specs.Layout.{next, node_pool, node_word, dirty_at, dirty_length, dirty_capacity, dirty_stale}
use Rattle.definitions.specs.State.{Engine}
use Rattle.dirty_laws.specs.Tally.{tally_most}
use Rattle.good_laws.specs.Good.{Good}
use Rattle.means.specs.Means.{Means}
use Rattle.marks.specs.Tests.{same}
use Rattle.marks.specs.Marks.{clear, mark}
use Rattle.marks.specs.Walks.{says}
use Rattle.image_dirty.specs.Dirty.{entry_holds, entries_hold, meets, meet, meet_all, mark_holds, marks_hold, sizes_hold, counts_from, counts_hold, dirty_holds}
use Rattle.image_means.specs.Yes.{same_yes, most_yes, given_yes, each_yes}
use Rattle.image_means.specs.Sizes.{sizes_pass}
use Rattle.image_means.specs.Meets.{Meets, meets_start, meets_old, meets_new, meets_seen, meets_count}
use Rattle.rule_laws.specs.Ids.{at_mem}

-- the test is yes where the node is dirty and was not met
meets_yes : (ws marks : List ℕ) (n : ℕ) → node_word ws n 2 ≡ 1 → get_or marks n 0 ≡ 0 → meets ws marks n ≡ true
unfolding meets clear
meets_yes ws marks n a b = same_yes _ _ _ a (eq-eqb (get_or marks n 0) 0 b)

meets_clean : (ws marks : List ℕ) (n : ℕ) → node_word ws n 2 ≡ 0 → meets ws marks n ≡ false
unfolding meets
meets_clean ws marks n a = sym (eq_no (node_word ws n 2) 1 _ _ (omega arith) refl)

meets_met : (ws marks : List ℕ) (n : ℕ) → node_word ws n 2 ≡ 1 → get_or marks n 0 ≡ 1 → meets ws marks n ≡ false
unfolding meets clear
meets_met ws marks n a b = sym (eq_yes (node_word ws n 2) 1 _ _ a (sym (ne_eqb (get_or marks n 0) 0 (omega arith))))

module _ (Named : ℕ → Name → Type 0) (ws : List ℕ) (e : Engine) (m : Means Named ws e) (r : ℕ → ℕ) (good : Good r e) where
  live : ℕ → Bool
  live n = get_or e.slots.marks n false

  -- the walk so far: what is left of the list
  abbrev Stage : Left ℕ → List ℕ → Type 0
  Stage l rest = Meets e.pools.nodes 0 live (λ _. false) l.ws l.is rest × (length l.ws ≡ 4096)

  dirty_word : (n : ℕ) → n < e.pools.nodes → (b : Bool) → live n ≡ b → node_word ws n 2 ≡ bit b
  unfolding live
  dirty_word n h b y = m.marks.mark n h ∙ ap bit y

  meet_passes : (marks : List ℕ) (n met : ℕ) (rest : List ℕ) → n < e.pools.nodes → Stage (record { is = met; ws = marks }) (n ∷ rest) → Stage (meet ws marks n met) rest
  unfolding meet mark pick
  meet_passes marks n met rest h k = go (live n) refl (k.0.seen n) refl
    where
      few : next met ≡ met + 1
      few =
          let c = k.0.counted in
          let l = tally_most (λ n. k.0.seen n && live n) e.pools.nodes in
          let b = m.header.few_nodes in
          omega arith

      marked : (b : Bool) → k.0.seen n ≡ b → get_or marks n 0 ≡ bit b
      marked b y = rw zero-add at (k.0.marked n h) ∙ ap bit y

      go : (x : Bool) → live n ≡ x → (y : Bool) → k.0.seen n ≡ y → Stage (pick (meets ws marks n) (record { is = next met; ws = set marks n 1 }) (record { is = met; ws = marks })) rest
      go true x false y =
          let b = m.header.few_nodes in
          let l = k.1 in
          let q = meets_new k.0 h (omega arith) x y in
          rw (meets_yes ws marks n (dirty_word n h true x) (marked false y), few) (rw zero-add at q, length-set marks n 1 ∙ l)
      go true x true y = rw (meets_met ws marks n (dirty_word n h true x) (marked true y)) (meets_old k.0 (λ _. y), k.1)
      go false x y z = rw (meets_clean ws marks n (dirty_word n h false x)) (meets_old k.0 (λ i. absurd (false≢true (sym x ∙ i))), k.1)

  item_inside : (i : ℕ) → i < length e.dirty.items → get_or e.dirty.items i 0 < e.pools.nodes
  item_inside i h = good.dirty.slots (get_or e.dirty.items i 0) (at_mem e.dirty.items i h)

  -- one turn
  meet_turn : (marks : List ℕ) (i met k x : ℕ) → get_or ws (dirty_at i) 0 ≡ x → next i ≡ suc i
      → meet_all ws marks i met (suc k) ≡ meet_all ws (meet ws marks x met).ws (suc i) (meet ws marks x met).is k
  unfolding meet_all
  meet_turn marks i met k x w n = rw (w, n)

  meet_all_passes : (k i met : ℕ) (marks : List ℕ) → i + k ≡ length e.dirty.items → Stage (record { is = met; ws = marks }) (drop i e.dirty.items) → Stage (meet_all ws marks i met k) []
  unfolding meet_all
  meet_all_passes zero i met marks l g =
      let d : drop i e.dirty.items ≡ [] = drop_of_length-le e.dirty.items {i = i} (omega arith) in
      rw d at g
  meet_all_passes (suc k) i met marks l g =
      let h : i < length e.dirty.items = omega arith in
      let room = m.dirty.room in
      let b = m.header.few_nodes in
      let n : next i ≡ suc i = omega arith in
      let w : get_or ws (dirty_at i) 0 ≡ get_or e.dirty.items i 0 = m.dirty.item i h in
      let q = meet_passes marks (get_or e.dirty.items i 0) met (drop (suc i) e.dirty.items) (item_inside i h) (rw (drop-cons e.dirty.items i 0 h) at g) in
      subst (λ (l : Left ℕ). Stage l []) (sym (meet_turn marks i met k (get_or e.dirty.items i 0) w n)) (meet_all_passes k (suc i) _ _ (omega arith) q)

  -- ---- the whole walk

  none_met : Stage (record { is = 0; ws = replicate 4096 0 }) (drop 0 e.dirty.items)
  unfolding live
  none_met =
      let b = m.header.few_nodes in (
        meets_start (replicate 4096 0) e.dirty.items (λ n h. rw (zero-add n) (get_or-replicate 4096 n 0 0 (omega arith))) (λ n f. absurd (false≢true f)) good.dirty.there,
        length-replicate {A = ℕ} 4096 0,
      )

  walk : Left ℕ
  walk = meet_all ws (replicate 4096 0) 0 0 (length e.dirty.items)

  walk_is : Stage walk []
  unfolding walk
  walk_is = meet_all_passes (length e.dirty.items) 0 0 (replicate 4096 0) (zero-add _) none_met

  mark_passes : (n : ℕ) → n < e.pools.nodes → mark_holds ws walk.ws n ≡ true
  unfolding mark_holds
  mark_passes n h = eq-eqb (node_word ws n 2) (get_or walk.ws n 0) (go (live n) refl (walk_is.0.seen n) refl)
    where
      at : (b : Bool) → walk_is.0.seen n ≡ b → get_or walk.ws n 0 ≡ bit b
      at b y = rw zero-add at (walk_is.0.marked n h) ∙ ap bit y

      no : (live n ≡ true) ⊎ (false ≡ true) → live n ≡ false → ⊥
      no (inl y) z = false≢true (sym z ∙ y)
      no (inr f) z = false≢true f

      go : (x : Bool) → live n ≡ x → (y : Bool) → walk_is.0.seen n ≡ y → node_word ws n 2 ≡ get_or walk.ws n 0
      go true x true y = dirty_word n h true x ∙ sym (at true y)
      go true x false y = absurd (false≢true (sym y ∙ meets_seen walk_is.0 n x))
      go false x true y = absurd (no (walk_is.0.only n y) x)
      go false x false y = dirty_word n h false x ∙ sym (at false y)

  counts_pass : counts_hold ws (length e.dirty.items) e.dirty.stale ≡ true
  unfolding counts_hold counts_from marks_hold walk live
  counts_pass =
      let c = meets_count walk_is.0 in
      let d = good.dirty.counted in
      let a = m.vacant.all in
      let b = m.header.few_nodes in
      same_yes _ _ _ (omega arith) (each_yes _ 0 (get_or ws 9 0) (omega arith) (λ j l h. mark_passes j (omega arith)))

  entries_pass : entries_hold ws (length e.dirty.items) ≡ true
  unfolding entries_hold entry_holds
  entries_pass =
      let room = m.dirty.room in
      let b = m.header.few_nodes in
      each_yes _ 0 (length e.dirty.items) (omega arith) (λ j l h.
      let i : j < length e.dirty.items = omega arith in
      lt-ltb (get_or ws (dirty_at j) 0) (node_pool ws) (let w = m.dirty.item j i in let n = m.header.nodes in let u = item_inside j i in omega arith))

  sizes_are : sizes_hold e.pools.nodes (length e.dirty.items) e.dirty.capacity e.dirty.stale ≡ true
  unfolding sizes_hold
  sizes_are =
      let room = good.dirty.room in
      let bound = good.dirty.bound in
      let b = m.header.few_nodes in
      elim (ℕ_discrete e.dirty.capacity 0) [
        | yes z ↦ sym (eq_yes e.dirty.capacity 0 _ _ z (sym (eq-eqb (length e.dirty.items) 0 (omega arith))))
        | no z ↦ sym (eq_no e.dirty.capacity 0 _ _ z (sym (most_yes _ _ _ bound
            (sizes_pass (length e.dirty.items) e.dirty.capacity e.dirty.stale good.dirty.grows (omega arith) z room good.dirty.half))))
      ]

  -- `dirty-holds` answers yes
  pub dirty_passes : dirty_holds ws ≡ true
  unfolding dirty_holds
  dirty_passes =
      rw (m.header.nodes, m.dirty.length_is, m.dirty.capacity_is, m.dirty.stale_is)
      (given_yes _ _ sizes_are (given_yes _ _ entries_pass counts_pass))
