-- The pending numbers of words that mean an engine of a run are what is counted: each net's dirty nodes, and the waits that name it.
use Prim.Native.Nat.{ℕ, zero, suc, ◌+◌, ◌<◌, ◌≤◌}
use Rattle.std.specs.Prelude.{◌≡◌, Bool, ◌&&◌, set, replicate}
use Rattle.std.proofs.Math.Path.{refl, sym, ap}
use Rattle.std.proofs.Common.{◌∙◌, subst, zero-add, length-set, get_or-set_same, get_or-set_other, eq-eqb, ne_eqb}
use Rattle.std.proofs.Math.Bool.{true, false}
use Rattle.std.proofs.lemmas.Bool.{false≢true}
use Rattle.std.proofs.Math.Option.{Option, none, some}
use mathlib.Core.List.{List}
use native.Mathlib.Omega.{arith}
use Rattle.std.proofs.Math.Decide.{ℕ_discrete}
use Rattle.std.proofs.Math.ListN.{length, get_or, length-replicate, get_or-replicate}
use Rattle.std.proofs.Math.Dec.{eqb}
use Rattle.words.specs.Choose.{if_eq, pick, eq_yes, eq_no, pick_true, pick_false}
use Rattle.net_file.specs.Lists.{bit}
use Rattle.net_file.specs.Values.{Name}
use Rattle.layout.specs.Layout.{next, nets, net_word_words, node_word, wait_word}
use Rattle.definitions.specs.Lists.{is_some}
use Rattle.definitions.specs.State.{Engine, graph_of, net_at}
use Rattle.join_laws.specs.Ports.{Frame, frame}
use Rattle.dirty_laws.specs.Tally.{tally, tally_most}
use Rattle.good_laws.specs.Owners.{owners, is_of}
use Rattle.good_laws.specs.Good.{Good, rest, dirty_of, waits_of}
use Rattle.means.specs.Means.{Means}
use Rattle.marks.specs.Marks.{met}
use Rattle.image_pending.specs.Pending.{count, count_node, count_nodes, count_wait, count_waits, count_holds, counts_hold, counted, pending_from, pending_holds}
use Rattle.image_means.specs.Yes.{each_yes}
use Rattle.image_means.specs.InUse.{owner_frame, owner_none, frame_words, frame_used}

-- ---- a tally's words

pub shifted : (x y j : ℕ) → x ≡ y + 1 → bit (eqb x (j + 1)) ≡ bit (eqb y j)
shifted x y j h = elim (ℕ_discrete y j) [ yes s ↦ ap bit (eq-eqb x (j + 1) (omega arith) ∙ sym (eq-eqb y j s)) | no s ↦ ap bit (ne_eqb x (j + 1) (omega arith) ∙ sym (ne_eqb y j s)) ]

count_long : (l : List ℕ) (t : ℕ) → length (count l t) ≡ length l
unfolding count
count_long l t = length-set l t (next (get_or l t 0))

count_at : (l : List ℕ) (t u : ℕ) → u < length l → get_or l u 0 < 4294967295 → get_or (count l t) u 0 ≡ bit (eqb t u) + get_or l u 0
unfolding count
count_at l t u h b = elim (ℕ_discrete u t) [
  | yes s ↦
      let n : bit (eqb t u) ≡ 1 = ap bit (eq-eqb t u (sym s)) in
      let a : get_or (set l t (next (get_or l t 0))) t 0 ≡ next (get_or l t 0) = get_or-set_same l t (next (get_or l t 0)) 0 (omega arith) in
      let c : get_or l t 0 ≡ get_or l u 0 = ap (λ i. get_or l i 0) (sym s) in
      ap (λ i. get_or (set l t (next (get_or l t 0))) i 0) s ∙ a ∙ omega arith
  | no s ↦
      let n : bit (eqb t u) ≡ 0 = ap bit (ne_eqb t u (λ y. s (sym y))) in
      get_or-set_other l t u (next (get_or l t 0)) 0 s ∙ omega arith
]

-- what is beyond u does not count
tally_beyond : (f : ℕ → Bool) (u N : ℕ) → u ≤ N → ((i : ℕ) → u ≤ i → f i ≡ false) → tally f N ≡ tally f u
tally_beyond f u zero l h = let z : u ≡ 0 = omega arith in rw z refl
tally_beyond f u (suc n) l h = go (ℕ_discrete u (suc n)) (λ k. tally_beyond f u n k h)
  where
    go : Dec (u ≡ suc n) → (u ≤ n → tally f n ≡ tally f u) → tally f (suc n) ≡ tally f u
    go (yes e) ih = rw e refl
    go (no d) ih = let a = ih (omega arith) in let b : bit (f n) ≡ 0 = ap bit (h n (omega arith)) in omega arith

module _ (Named : ℕ → Name → Type 0) (ws : List ℕ) (e : Engine) (m : Means Named ws e) (good : Good rest e) where
  -- ---- dirty nodes

  -- slot n holds a dirty node of net j
  abbrev pub dirty_in : ℕ → ℕ → Bool
  dirty_in j n = get_or e.slots.marks n false && is_of j (get_or (owners (graph_of e)) n none)

  pub record Node (n : ℕ) : Type 0 where
    pub node : Frame
    pub is : frame (graph_of e) n ≡ some node

  dirty_node : (n : ℕ) → get_or e.slots.marks n false ≡ true → Node n
  dirty_node n y = go (frame (graph_of e) n) refl
    where
      go : (o : Option Frame) → frame (graph_of e) n ≡ o → Node n
      go none h = absurd (false≢true (ap is_some (sym (owner_none (graph_of e) n h)) ∙ good.slotted.marked n y))
      go (some x) h = record { node = x; is = h }

  all_dirty : (j : ℕ) → tally (dirty_in j) e.pools.nodes ≡ tally (dirty_in j) (get_or ws 9 0)
  all_dirty j = let a = m.vacant.all in tally_beyond (dirty_in j) (get_or ws 9 0) e.pools.nodes (omega arith) (λ i l. go i l (get_or e.slots.marks i false) refl)
    where
      go : (i : ℕ) → get_or ws 9 0 ≤ i → (b : Bool) → get_or e.slots.marks i false ≡ b → (b && is_of j (get_or (owners (graph_of e)) i none)) ≡ false
      go i l true y = absurd (let x = dirty_node i y in let u = frame_used Named ws e m rest good i x.node x.is in omega arith)
      go i l false y = refl

  node_counts : (l : List ℕ) (n j : ℕ) → n < e.pools.nodes → j + 1 < length l → get_or l (j + 1) 0 < 4294967295
      → get_or (count_node ws l n) (j + 1) 0 ≡ bit (dirty_in j n) + get_or l (j + 1) 0
  unfolding count_node
  node_counts l n j h i b = go (get_or e.slots.marks n false) refl
    where
      go : (t : Bool) → get_or e.slots.marks n false ≡ t
          → get_or (if_eq (node_word ws n 2) 1 (count l (node_word ws n 0)) l) (j + 1) 0 ≡ bit (t && is_of j (get_or (owners (graph_of e)) n none)) + get_or l (j + 1) 0
      go false y =
          let w : node_word ws n 2 ≡ 0 = m.marks.mark n h ∙ ap bit y in
          rw (← eq_no (node_word ws n 2) 1 (count l (node_word ws n 0)) l (omega arith) refl) (sym (zero-add _))
      go true y =
          let w : node_word ws n 2 ≡ 1 = m.marks.mark n h ∙ ap bit y in
          let x = dirty_node n y in
          let a : node_word ws n 0 ≡ x.node.net + 1 = (frame_words Named ws e m n x.node x.is).0 in
          let o : bit (is_of j (get_or (owners (graph_of e)) n none)) ≡ bit (eqb x.node.net j) = ap (λ (z : Option ℕ). bit (is_of j z)) (owner_frame (graph_of e) n x.node x.is) in
          let c = count_at l (node_word ws n 0) (j + 1) i b in
          let d = shifted (node_word ws n 0) x.node.net j a in
          rw (← eq_yes (node_word ws n 2) 1 (count l (node_word ws n 0)) l w refl) (omega arith)

  node_long : (l : List ℕ) (n : ℕ) → length (count_node ws l n) ≡ length l
  unfolding count_node
  node_long l n = elim (ℕ_discrete (node_word ws n 2) 1) [
    | yes y ↦ ap (λ (x : List ℕ). length x) (sym (eq_yes (node_word ws n 2) 1 (count l (node_word ws n 0)) l y refl)) ∙ count_long l (node_word ws n 0)
    | no y ↦ ap (λ (x : List ℕ). length x) (sym (eq_no (node_word ws n 2) 1 (count l (node_word ws n 0)) l y refl))
  ]

  -- the tally has these numbers
  abbrev pub Tells : (ℕ → ℕ) → List ℕ → Type 0
  Tells f l = (length l ≡ 257) × ((j : ℕ) → j < 256 → get_or l (j + 1) 0 ≡ f j)

  nodes_count : (k n : ℕ) (l : List ℕ) → n + k ≡ get_or ws 9 0 → Tells (λ j. tally (dirty_in j) n) l → Tells (λ j. tally (dirty_in j) (get_or ws 9 0)) (count_nodes ws l n k)
  unfolding count_nodes
  nodes_count zero n l e₁ t = let z : n ≡ get_or ws 9 0 = omega arith in rw (← z) t
  nodes_count (suc k) n l e₁ t =
      let a = m.vacant.all in
      let b = m.header.few_nodes in
      let s : next n ≡ suc n = omega arith in
      rw s (nodes_count k (suc n) (count_node ws l n) (omega arith) (
        node_long l n ∙ t.0,
        λ j h.
            let u = t.0 in
            let v = t.1 j h in
            let w = tally_most (dirty_in j) n in
            node_counts l n j (omega arith) (omega arith) (omega arith) ∙ ap (λ x. bit (dirty_in j n) + x) v,
      ))

  -- ---- waits

  module _ (marks : List ℕ) (has : ℕ → Bool) (marked : (c : ℕ) → 0 < c → c ≤ get_or ws 13 0 → get_or marks c 0 ≡ bit (has c)) where
    abbrev pub wait_in : ℕ → ℕ → Bool
    wait_in j i = has (suc i) && eqb (wait_word ws (suc i) 1) (j + 1)

    wait_counts : (l : List ℕ) (i j : ℕ) → i < get_or ws 13 0 → j + 1 < length l → get_or l (j + 1) 0 < 4294967295
        → get_or (count_wait ws marks l (suc i)) (j + 1) 0 ≡ bit (wait_in j i) + get_or l (j + 1) 0
    unfolding count_wait met
    wait_counts l i j h u b = go (has (suc i)) refl
      where
        go : (t : Bool) → has (suc i) ≡ t
            → get_or (pick (eqb (get_or marks (suc i) 0) 1) (count l (wait_word ws (suc i) 1)) l) (j + 1) 0 ≡ bit (t && eqb (wait_word ws (suc i) 1) (j + 1)) + get_or l (j + 1) 0
        go false y =
            let w : get_or marks (suc i) 0 ≡ 0 = marked (suc i) (omega arith) (omega arith) ∙ ap bit y in
            rw (← pick_false (eqb (get_or marks (suc i) 0) 1) (count l (wait_word ws (suc i) 1)) l (ne_eqb (get_or marks (suc i) 0) 1 (omega arith)) refl) (sym (zero-add _))
        go true y =
            let w : get_or marks (suc i) 0 ≡ 1 = marked (suc i) (omega arith) (omega arith) ∙ ap bit y in
            rw (← pick_true (eqb (get_or marks (suc i) 0) 1) (count l (wait_word ws (suc i) 1)) l (eq-eqb (get_or marks (suc i) 0) 1 w) refl) (count_at l (wait_word ws (suc i) 1) (j + 1) u b)

    wait_long : (l : List ℕ) (c : ℕ) → length (count_wait ws marks l c) ≡ length l
    unfolding count_wait met
    wait_long l c = go (eqb (get_or marks c 0) 1)
      where
        go : (t : Bool) → length (pick t (count l (wait_word ws c 1)) l) ≡ length l
        go true = ap (λ (x : List ℕ). length x) (sym (pick_true true (count l (wait_word ws c 1)) l refl refl)) ∙ count_long l (wait_word ws c 1)
        go false = ap (λ (x : List ℕ). length x) (sym (pick_false false (count l (wait_word ws c 1)) l refl refl))

    waits_count : (f : ℕ → ℕ) → ((j : ℕ) → f j ≤ 4096) → (k i : ℕ) (l : List ℕ) → i + k ≡ get_or ws 13 0 → Tells (λ j. tally (wait_in j) i + f j) l
        → Tells (λ j. tally (wait_in j) (get_or ws 13 0) + f j) (count_waits ws marks l (suc i) k)
    unfolding count_waits
    waits_count f few zero i l e₁ t = let z : i ≡ get_or ws 13 0 = omega arith in rw (← z) t
    waits_count f few (suc k) i l e₁ t =
        let a = m.used.waits in
        let b = m.header.few_waits in
        let s : next (suc i) ≡ suc (suc i) = omega arith in
        rw s (waits_count f few k (suc i) (count_wait ws marks l (suc i)) (omega arith) (
          wait_long l (suc i) ∙ t.0,
          λ j h.
              let u = t.0 in
              let v = t.1 j h in
              let w = tally_most (wait_in j) i in
              let x = few j in
              let y = wait_counts l i j (omega arith) (omega arith) (omega arith) in
              omega arith,
        ))

    -- `pending-holds` answers yes, where the waits that were met are those that the nets made
    pub pending_passes : ((j : ℕ) → tally (wait_in j) (get_or ws 13 0) ≡ waits_of e.nets j) → pending_holds ws marks ≡ true
    unfolding pending_holds pending_from counts_hold counted count_holds net_at
    pending_passes made =
        let few : (j : ℕ) → tally (dirty_in j) (get_or ws 9 0) ≤ 4096 = λ j. let a = m.vacant.all in let b = m.header.few_nodes in let c = tally_most (dirty_in j) (get_or ws 9 0) in omega arith in
        let l : length (replicate {A = ℕ} 257 0) ≡ 257 = length-replicate {A = ℕ} 257 0 in
        let d = nodes_count (get_or ws 9 0) 0 (replicate 257 0) (zero-add _) (l, λ j h. get_or-replicate 257 (j + 1) 0 0 (omega arith)) in
        let r = waits_count (λ j. tally (dirty_in j) (get_or ws 9 0)) few (get_or ws 13 0) 0 (count_nodes ws (replicate 257 0) 0 (get_or ws 9 0)) (zero-add _) (d.0, λ j h. d.1 j h ∙ sym (zero-add _)) in
        let b = m.header.few_nets in
        rw m.header.nets_are (each_yes _ 1 (length e.nets) (omega arith) (λ t lo hi. all r t lo hi))
      where
        all : Tells (λ j. tally (wait_in j) (get_or ws 13 0) + tally (dirty_in j) (get_or ws 9 0)) (count_waits ws marks (count_nodes ws (replicate 257 0) 0 (get_or ws 9 0)) 1 (get_or ws 13 0))
            → (t : ℕ) → 1 ≤ t → t < 1 + length e.nets → eqb (net_word_words ws t 7) (get_or (count_waits ws marks (count_nodes ws (replicate 257 0) 0 (get_or ws 9 0)) 1 (get_or ws 13 0)) t 0) ≡ true
        all r zero lo hi = absurd (omega arith)
        all r (suc j) lo hi =
            let h : j < length e.nets = omega arith in
            let b = m.header.few_nets in
            let z : suc j ≡ j + 1 = omega arith in
            let p = good.pending j h in
            let q = (m.nets j h).pending_is in
            let v = r.1 j (omega arith) in
            let w = made j in
            let d = all_dirty j in
            rw z (eq-eqb (net_word_words ws (j + 1) 7) (get_or (count_waits ws marks (count_nodes ws (replicate 257 0) 0 (get_or ws 9 0)) 1 (get_or ws 13 0)) (j + 1) 0) (omega arith))
