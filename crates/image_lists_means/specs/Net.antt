-- The node list of one net: the walk from its first entry to its last passes, marks its entries, and meets its nodes.
use Rattle.std.specs.Prelude.{ℕ, zero, suc, ◌+◌, ◌*◌, ◌<◌, ◌≤◌, ◌≡◌, ◌≢◌, ◌⊎◌, Bool, true, false, ◌&&◌, get_or, set, eqb, ltb}
use Rattle.std.proofs.Math.Path.{refl, subst}
use Rattle.std.proofs.Common.{sym, ap, ◌∙◌, inr, zero-add, add-zero, eq-eqb, ne_eqb, eqb-true, lt-ltb}
use Rattle.std.proofs.Math.Logic.{inl}
use Rattle.std.proofs.lemmas.Bool.{false≢true, eqb-false}
use Rattle.std.proofs.Math.Option.{Option, none, some}
use mathlib.Core.List.{List, [], ◌∷◌, map, Memᴰ}
use native.Mathlib.Omega.{arith}
use Rattle.std.proofs.Math.Decide.{ℕ_discrete}
use Rattle.std.proofs.Math.ListN.{length, length-set}
use Rattle.std.proofs.Math.Seq.{get_or-set_other}
use Rattle.words.specs.Choose.{pick, pick_true, pick_false, eq_yes, eq_no}
use Rattle.words.specs.Left.{Left}
use Rattle.net_file.specs.Lists.{bit}
use Rattle.net_file.specs.Values.{Name}
use Rattle.layout.specs.Layout.{next, node_pool, node_word, entry_word}
use Rattle.definitions.specs.State.{Engine, graph_of}
use Rattle.join_laws.specs.Ports.{Frame, frame}
use Rattle.dirty_laws.specs.Tally.{tally_most}
use Rattle.good_laws.specs.Owners.{owners}
use Rattle.good_laws.specs.Good.{live_in}
use Rattle.good_laws.specs.Owners.{is_of}
use Rattle.chains.specs.Seg.{Seg, All, Once, Mine, last}
use Rattle.means.specs.Means.{SlotIs, Means}
use Rattle.marks.specs.Marks.{clear, mark}
use Rattle.image_chains.specs.Chains.{used, spot, is_new}
use Rattle.image_chains.specs.declared.Pool.TheVariants.{Entries}
use Rattle.image_lists.specs.declared.Walk.{Walk}
use Rattle.image_lists.specs.Lists.{entry_holds, meets, meet, step_on, step, walk_list}
use Rattle.image_means.specs.Yes.{same_yes, given_yes}
use Rattle.image_means.specs.InUse.{owner_frame, owner_none}
use Rattle.image_means.specs.Meets.{Meets, meets_keep, meets_old, meets_new}
use Rattle.image_chains_means.specs.Places.{Marked, mark_place, mark_has, on_only, recount, places_keep}
use Rattle.image_chains_means.specs.Chains.{new_passes, still_new}

pub spots : (c : ℕ) → spot Entries c ≡ 0 + c
unfolding spot
spots c = sym (zero-add c)

module _ (Named : ℕ → Name → Type 0) (ws : List ℕ) (e : Engine) (m : Means Named ws e) (k : ℕ) where
  -- slot n holds a node of net k
  abbrev pub live : ℕ → Bool
  live = live_in (owners (graph_of e)) k

  -- its word says whether it does
  live_word : (n : ℕ) → n < e.pools.nodes → (b : Bool) → live n ≡ b → eqb (node_word ws n 0) (k + 1) ≡ b
  live_word n h b y = go (frame (graph_of e) n) refl (m.nodes.slot n h) ∙ y
    where
      go : (o : Option Frame) → frame (graph_of e) n ≡ o → SlotIs Named ws n o → eqb (node_word ws n 0) (k + 1) ≡ is_of k (get_or (owners (graph_of e)) n none)
      go none v w = ne_eqb (node_word ws n 0) (k + 1) (omega arith) ∙ sym (ap (is_of k) (owner_none (graph_of e) n v))
      go (some x) v w = elim (ℕ_discrete x.net k) [
        | yes s ↦ eq-eqb (node_word ws n 0) (k + 1) (w.0 ∙ ap (λ j. j + 1) s) ∙ sym (ap (is_of k) (owner_frame (graph_of e) n x v) ∙ eq-eqb x.net k s)
        | no s ↦ ne_eqb (node_word ws n 0) (k + 1) (let w₀ = w.0 in omega arith) ∙ sym (ap (is_of k) (owner_frame (graph_of e) n x v) ∙ ne_eqb x.net k s)
      ]

  -- ---- one node is met

  -- the marks as long, those of entries as they were
  abbrev Kept : List ℕ → List ℕ → Type 0
  Kept w marks = (length w ≡ length marks) × ((i : ℕ) → i ≤ 16384 → get_or w i 0 ≡ get_or marks i 0)

  module _ (before : ℕ → Bool) where
    meet_passes : (marks : List ℕ) (n met : ℕ) (rest : List ℕ) → n < e.pools.nodes → length marks ≡ 20481 → Meets e.pools.nodes 16385 live before marks met (n ∷ rest)
        → Meets e.pools.nodes 16385 live before (meet ws marks (k + 1) n met).ws (meet ws marks (k + 1) n met).is rest × Kept (meet ws marks (k + 1) n met).ws marks
    unfolding meet mark pick meets clear
    meet_passes marks n met rest h long q = go (live n) refl (q.seen n) refl
      where
        few : next met ≡ met + 1
        few =
            let c = q.counted in
            let l = tally_most (λ n. q.seen n && live n) e.pools.nodes in
            let b = m.header.few_nodes in
            omega arith

        Out : Left ℕ → Type 0
        Out r = Meets e.pools.nodes 16385 live before r.ws r.is rest × Kept r.ws marks

        go : (x : Bool) → live n ≡ x → (y : Bool) → q.seen n ≡ y → Out (meet ws marks (k + 1) n met)
        go true x false y =
            let b = m.header.few_nodes in
            let w = eqb-true (node_word ws n 0) (k + 1) (live_word n h true x) in
            let t = same_yes (node_word ws n 0) (k + 1) (clear marks (16385 + n)) w (eq-eqb (get_or marks (16385 + n) 0) 0 (q.marked n h ∙ ap bit y)) in
            subst Out (pick_true (meets ws marks (k + 1) n) _ _ t refl)
            (rw few (meets_new q h (omega arith) x y), (length-set marks (16385 + n) 1, λ i l. get_or-set_other marks (16385 + n) i 1 0 (omega arith)))
        go true x true y =
            let w = eqb-true (node_word ws n 0) (k + 1) (live_word n h true x) in
            let a = q.marked n h ∙ ap bit y in
            let t : meets ws marks (k + 1) n ≡ false = sym (eq_yes (node_word ws n 0) (k + 1) _ _ w (sym (ne_eqb (get_or marks (16385 + n) 0) 0 (omega arith)))) in
            subst Out (pick_false (meets ws marks (k + 1) n) _ _ t refl) (meets_old q (λ _. y), (refl, λ i l. refl))
        go false x z y =
            let w = eqb-false (node_word ws n 0) (k + 1) (live_word n h false x) in
            let t : meets ws marks (k + 1) n ≡ false = sym (eq_no (node_word ws n 0) (k + 1) _ _ w refl) in
            subst Out (pick_false (meets ws marks (k + 1) n) _ _ t refl) (meets_old q (λ i. absurd (false≢true (sym x ∙ i))), (refl, λ i l. refl))

    -- ---- the walk

    -- a walk over the entries l, from entries marked as `has` says, came to the end
    pub record Listed (count : ℕ) (has : ℕ → Bool) (l : List ℕ) (start : ℕ) (r : Left Walk) : Type 0 where
      pub ends : r.is.entry ≡ 0
      pub last_is : r.is.last ≡ last l start
      pub marked : Marked (used Entries ws) 0 r.ws (count + length l)
      pub only : (d : ℕ) → marked.has d ≡ true → (has d ≡ true) ⊎ Memᴰ d l
      pub met : Meets e.pools.nodes 16385 live before r.ws r.is.met []
      pub long : length r.ws ≡ 20481

    -- an entry in use that names a slot
    pub record EntryAt (c : ℕ) : Type 0 where
      pub pos : 0 < c
      pub low : c ≤ used Entries ws
      pub slot : entry_word ws c 0 < e.pools.nodes

    entry_passes : {marks : List ℕ} {count : ℕ} (q : Marked (used Entries ws) 0 marks count) (c : ℕ) → EntryAt c → q.has c ≡ false → entry_holds ws marks c ≡ true
    unfolding entry_holds
    entry_passes q c a z = given_yes _ _ (new_passes Entries ws 0 spots q c a.pos a.low z) (lt-ltb (entry_word ws c 0) (node_pool ws) (let n = m.header.nodes in let l = a.slot in omega arith))

    -- one entry on
    turn : (marks : List ℕ) (d b x n : ℕ) → entry_holds ws marks d ≡ true
        → walk_list ws (meet ws (set marks (0 + d) 1) (k + 1) (entry_word ws d 0) x).ws (k + 1)
        (record { entry = entry_word ws d 1; last = d; met = (meet ws (set marks (0 + d) 1) (k + 1) (entry_word ws d 0) x).is }) n
        ≡ walk_list ws marks (k + 1) (record { entry = d; last = b; met = x }) (suc n)
    unfolding walk_list step step_on mark
    turn marks d b x n h = rw (zero-add d) (ap (λ (s : Left Walk). walk_list ws s.ws (k + 1) s.is n) (pick_true _ _ _ h refl))

    listed_cons : {marks : List ℕ} {count : ℕ} (q : Marked (used Entries ws) 0 marks count) (d : ℕ) (i : 0 < d) (j : d ≤ used Entries ws) (z : q.has d ≡ false) (l : List ℕ) (b : ℕ) (r : Left Walk)
        → Listed (count + 1) (mark_place q d i j z).has l d r → Listed count q.has (d ∷ l) b r
    listed_cons {count = count} q d i j z l b r t = record {
      ends = t.ends;
      last_is = t.last_is;
      marked = recount t.marked (count + suc (length l)) (omega arith);
      only = λ c h. later c (t.only c h);
      met = t.met;
      long = t.long;
    }
      where
        here : (c : ℕ) → (q.has c ≡ true) ⊎ (c ≡ d) → (q.has c ≡ true) ⊎ Memᴰ c (d ∷ l)
        here c (inl h) = inl h
        here c (inr e) = inr (Memᴰ.head e)

        later : (c : ℕ) → ((mark_place q d i j z).has c ≡ true) ⊎ Memᴰ c l → (q.has c ≡ true) ⊎ Memᴰ c (d ∷ l)
        later c (inl h) = here c (on_only q.has d c (sym (mark_has q d i j z c) ∙ h))
        later c (inr o) = inr (Memᴰ.tail o)

    pub walk_passes : (l marks : List ℕ) (c b x count : ℕ) → used Entries ws ≤ 16384 → Seg (λ d. entry_word ws d 1) c l 0 → Once l → All EntryAt l
        → (q : Marked (used Entries ws) 0 marks count) → All (λ d. q.has d ≡ false) l → Meets e.pools.nodes 16385 live before marks x (map (λ d. entry_word ws d 0) l)
        → length marks ≡ 20481 → Listed count q.has l b (walk_list ws marks (k + 1) (record { entry = c; last = b; met = x }) (length l))
    unfolding walk_list
    walk_passes [] marks c b x count few s o a q n t long = record {
      ends = s;
      last_is = refl;
      marked = recount q (count + 0) (add-zero count);
      only = λ d h. inl h;
      met = t;
      long = long;
    }
    walk_passes (d ∷ l) marks c b x count few s o a q n t long =
        let y = a.0 in
        let low = y.low in
        let q₁ = mark_place q d y.pos y.low n.0 in
        let long₁ : length (set marks (0 + d) 1) ≡ 20481 = length-set marks (0 + d) 1 ∙ long in
        let t₁ = meets_keep t (set marks (0 + d) 1) (λ i h. get_or-set_other marks (0 + d) (16385 + i) 1 0 (omega arith)) in
        let r = meet_passes (set marks (0 + d) 1) (entry_word ws d 0) x (map (λ d. entry_word ws d 0) l) y.slot long₁ t₁ in
        let q₂ = places_keep q₁ (meet ws (set marks (0 + d) 1) (k + 1) (entry_word ws d 0) x).ws r.1.0 (λ i p h. r.1.1 (0 + i) (omega arith)) in
        let ih = walk_passes l (meet ws (set marks (0 + d) 1) (k + 1) (entry_word ws d 0) x).ws (entry_word ws d 1) d (meet ws (set marks (0 + d) 1) (k + 1) (entry_word ws d 0) x).is (count + 1) few
        s.1 o.1 a.1 q₂ (still_new Entries ws 0 spots q d y.pos y.low n.0 l o.0 n.1) r.0 (r.1.0 ∙ long₁) in
        subst (λ (f : ℕ). Listed count q.has (d ∷ l) b (walk_list ws marks (k + 1) (record { entry = f; last = b; met = x }) (suc (length l)))) (sym s.0)
        (subst (Listed count q.has (d ∷ l) b) (turn marks d b x (length l) (entry_passes q d y n.0)) (listed_cons q d y.pos y.low n.0 l b _ ih))
