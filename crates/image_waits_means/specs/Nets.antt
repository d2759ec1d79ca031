-- The waits on all nets: each net's pass, and in the end as many are met, and for each net as many of its own, as the run has.
use Prim.Native.Nat.{ℕ, zero, suc, ◌+◌, ◌*◌, ◌<◌, ◌≤◌}
use Rattle.std.specs.Prelude.{◌≡◌, refl, ◌⊎◌, Bool, true, ◌&&◌, drop, replicate, ltb}
use Rattle.std.proofs.Math.Path.{sym, ap, subst}
use Rattle.std.proofs.Common.{◌∙◌, inl, inr, drop_of_length-le, drop-cons, le-ltb}
use Rattle.std.proofs.Math.Bool.{false}
use Rattle.std.proofs.lemmas.Bool.{false≢true}
use mathlib.Core.List.{List, [], ◌∷◌, map, Memᴰ}
use native.Mathlib.Omega.{arith}
use Rattle.std.proofs.Math.Decide.{ℕ_discrete}
use Rattle.std.proofs.Math.Nat.{zero-add}
use Rattle.std.proofs.Math.ListN.{length, get_or, length-replicate}
use Rattle.std.proofs.lemmas.List.{length-map, get_or-replicate}
use Rattle.std.proofs.Math.Dec.{eqb}
use Rattle.words.specs.Choose.{pick, pick_true, pick_false, eq_yes, eq_no}
use Rattle.words.specs.Left.{Left}
use Rattle.net_file.specs.Lists
use Rattle.net_file.specs.Lists.{bit, sum}
use Rattle.net_file.specs.Values.{Name}
use Rattle.layout.specs.Layout.{node_pool, nets, net_word_words, wait_word}
use Rattle.definitions.specs.State.{Wait, Net, Engine, net_at, waits}
use Rattle.dirty_laws.specs.Tally.{tally, tally_none}
use Rattle.good_laws.specs.Good.{made_by, waits_of}
use Rattle.good_laws.specs.Idle.{Idle}
use Rattle.waiter_laws.specs.Waiters.{Waited}
use Rattle.chains.specs.Seg.{Seg, All, Once, Mine, Chain, all_map, seg_same, items_same}
use Rattle.chains.specs.Pools.{Root, Pool}
use Rattle.means.specs.Means.{no_net, waits_in, awaiting_of, Means}
use Rattle.marks.specs.Walks.{says, each_with}
use Rattle.image_chains.specs.Chains.{used}
use Rattle.image_chains.specs.declared.Pool.TheVariants.{Waits}
use Rattle.image_waits.specs.Waits.{idle, waits_from, net_holds}
use Rattle.image_means.specs.Yes.{each_with_yes}
use Rattle.image_chains_means.specs.Alls.{all_of, all_mem}
use Rattle.image_chains_means.specs.Places.{Marked, none_marked}
use Rattle.image_chains_means.specs.Chains.{Through}
use Rattle.image_waits_means.specs.Net.{wait_of, in_words, WaitAt, wait_passes, made_count, waits_pass}

module _ (Named : ℕ → Name → Type 0) (ws : List ℕ) (e : Engine) (m : Means Named ws e)
    (of : Waited e.pools.nodes (length e.nets) e) (idles : Idle e) where
  abbrev pub pool : Pool (waits_in ws e.pools.nodes e.pools.entries) (length e.nets) (awaiting_of e.nets) (waits e)
  pool = m.waits_are

  pub word_is : (c f : ℕ) → wait_word ws c f ≡ get_or ws (5213 + 32 * e.pools.nodes + 2 * e.pools.entries + 3 * c + f) 0
  word_is c f = rw (m.header.nodes, m.header.entries)

  module _ (k : ℕ) (h : k < length e.nets) where
    pub places_items : map (wait_of ws) (pool.places k) ≡ map in_words (net_at e k).awaiting
    unfolding net_at
    places_items =
        items_same (waits_in ws e.pools.nodes e.pools.entries).node (wait_of ws) (pool.places k) (pool.nets k h).chain.mine (λ d i j. (word_is d 0 j, word_is d 1 j))
        ∙ (pool.nets k h).items

    pub places_length : length (pool.places k) ≡ length (net_at e k).awaiting
    places_length = sym (length-map (pool.places k) (wait_of ws)) ∙ ap (λ (l : List (ℕ × ℕ)). length l) places_items ∙ length-map (net_at e k).awaiting in_words

    pub places_seg : Seg (λ d. wait_word ws d 2) (net_word_words ws (k + 1) 8) (pool.places k) 0
    places_seg = seg_same _ (λ d. wait_word ws d 2) _ (pool.places k) 0 (pool.nets k h).chain.seg (all_of (λ c. word_is c 2) (pool.places k))

    -- each place holds a wait in order
    well : (l : List ℕ) (us : List Wait) → map (wait_of ws) l ≡ map in_words us → ((w : Wait) → Memᴰ w us → (w.node < node_pool ws) × (w.net < nets ws))
        → All (Mine pool.own (get_or ws 13 0 + 1) k) l → All (WaitAt ws) l
    unfolding used
    well [] us i g a = tt
    well (c ∷ l) [] i g a = absurd (let z : suc (length (map (wait_of ws) l)) ≡ 0 = ap (λ (x : List (ℕ × ℕ)). length x) i in omega arith)
    well (c ∷ l) (w ∷ us) i g a =
        let q = g w (Memᴰ.head refl) in
        let b = a.0.below in (
          record { pos = a.0.pos; low = omega arith; well = wait_passes ws c w (ap (λ (x : List (ℕ × ℕ)). get_or x 0 (0, 0)) i) q.0 q.1 },
          well l us (ap (drop 1) i) (λ v n. g v (Memᴰ.tail n)) a.1,
        )

    pub all_well : All (WaitAt ws) (pool.places k)
    all_well =
        well (pool.places k) (net_at e k).awaiting places_items
        (λ w i. (subst (λ (j : ℕ). w.node < j) (sym m.header.nodes) (of k w i).0, subst (λ (j : ℕ). w.net < j) (sym m.header.nets_are) (of k w i).1))
        (pool.nets k h).chain.mine

    -- no wait on a net at 0
    not_idle : idle ws (k + 1) ≡ false
    unfolding idle net_at
    not_idle = elim (ℕ_discrete (net_at e k).pending 0) [
      | yes z ↦
          let a : length (pool.places k) ≡ 0 = places_length ∙ ap (λ (l : List Wait). length l) (idles k h z) in
          sym (eq_yes (net_word_words ws (k + 1) 7) 0 _ _ ((m.nets k h).pending_is ∙ z) (sym (le-ltb 0 (net_word_words ws (k + 1) 8) (first_none (pool.places k) (net_word_words ws (k + 1) 8) a places_seg))))
      | no z ↦ sym (eq_no (net_word_words ws (k + 1) 7) 0 _ _ (λ y. z (sym (m.nets k h).pending_is ∙ y)) refl)
    ]
      where
        first_none : (l : List ℕ) (c : ℕ) → length l ≡ 0 → Seg (λ d. wait_word ws d 2) c l 0 → c ≤ 0
        first_none [] c z s = omega arith
        first_none (d ∷ l) c z s = absurd (omega arith)

  -- ---- all nets

  -- before net k: the waits on the nets below it are met
  pub record Stage (k : ℕ) (marks : List ℕ) : Type 0 where
    pub count : ℕ
    pub marked : Marked (used Waits ws) 0 marks count
    pub owned : (c : ℕ) → marked.has c ≡ true → pool.own c < k
    pub counted : count + sum (map (λ n. length n.awaiting) (drop k e.nets)) ≡ waits e
    pub made : (j : ℕ) → tally (λ i. marked.has (suc i) && eqb (wait_word ws (suc i) 1) (j + 1)) (used Waits ws) + waits_of (drop k e.nets) j ≡ waits_of e.nets j

  drop_sum : (f : Net → ℕ) (k : ℕ) → k < length e.nets → sum (map f (drop k e.nets)) ≡ f (net_at e k) + sum (map f (drop (suc k) e.nets))
  unfolding net_at
  drop_sum f k h = ap (λ (l : List Net). sum (map f l)) (drop-cons e.nets k no_net h)

  module _ (k : ℕ) (marks : List ℕ) (h : k < length e.nets) (g : Stage k marks) where
    -- its waits have no mark yet
    fresh : All (λ d. g.marked.has d ≡ false) (pool.places k)
    fresh = all_map (λ d i. go d i.tag (g.marked.has d) refl) (pool.places k) (pool.nets k h).chain.mine
      where
        go : (d : ℕ) → pool.own d ≡ k → (b : Bool) → g.marked.has d ≡ b → b ≡ false
        go d i true y = absurd (let o = g.owned d y in omega arith)
        go d i false y = refl

    room : length (pool.places k) ≤ get_or ws 13 0
    room =
        let a : length pool.freed + waits e ≡ get_or ws 13 0 = pool.all in
        let b = places_length k h in
        let c = g.counted in
        let d = drop_sum (λ n. length n.awaiting) k h in
        omega arith

    walked : Left Bool
    walked = waits_from ws marks (k + 1) (net_word_words ws (k + 1) 8) 0 (get_or ws 13 0)

    through : Through (used Waits ws) 0 g.count g.marked.has (pool.places k) walked
    unfolding walked
    through =
        waits_pass ws (k + 1) (pool.places k) marks (net_word_words ws (k + 1) 8) 0 (get_or ws 13 0) g.count (places_seg k h) room (pool.nets k h).chain.once (all_well k h) g.marked fresh
        (sym (pool.nets k h).tail)

    stage_on : Stage (suc k) walked.ws
    stage_on = record {
      count = g.count + length (pool.places k);
      marked = through.marked;
      owned = λ c y. owned c (through.only c y);
      counted = let b = places_length k h in let c = g.counted in let d = drop_sum (λ n. length n.awaiting) k h in omega arith;
      made = λ j. let a = through.tallied (λ c. eqb (wait_word ws c 1) (j + 1)) in
          let b = made_count ws j (pool.places k) (net_at e k).awaiting (places_items k h) in
          let c = g.made j in
          let d = drop_sum (λ n. made_by j n.awaiting) k h in
          omega arith;
    }
      where
        owned : (c : ℕ) → (g.marked.has c ≡ true) ⊎ Memᴰ c (pool.places k) → pool.own c < suc k
        owned c (inl y) = let o = g.owned c y in omega arith
        owned c (inr i) = let o = (all_mem (Mine pool.own (get_or ws 13 0 + 1) k) (pool.places k) (pool.nets k h).chain.mine c i).tag in omega arith

    pub net_passes : ((net_holds ws marks (k + 1)).is ≡ true) × Stage (suc k) (net_holds ws marks (k + 1)).ws
    unfolding net_holds walked
    net_passes = subst (λ (r : Left Bool). (r.is ≡ true) × Stage (suc k) r.ws) (pick_false _ _ _ (not_idle k h) refl) (through.yes, stage_on)

  -- none is met
  start : Stage 0 (replicate 4097 0)
  unfolding waits used
  start = record {
    count = 0;
    marked =
        let a = m.used.waits in
        let b = m.header.few_waits in
        let l : length (replicate {A = ℕ} 4097 0) ≡ 4097 = length-replicate {A = ℕ} 4097 0 in
        none_marked (replicate 4097 0) (omega arith) (λ c p i. rw (zero-add c) (get_or-replicate 4097 c 0 0 (omega arith)));
    owned = λ c y. absurd (false≢true y);
    counted = zero-add _;
    made = λ j. ap (λ x. x + waits_of e.nets j) (tally_none (λ i. false && eqb (wait_word ws (suc i) 1) (j + 1)) (get_or ws 13 0) (λ i l. refl)) ∙ zero-add _;
  }

  -- before net t, by number
  abbrev StageAt : ℕ → List ℕ → Type 0
  StageAt zero marks = ⊥
  StageAt (suc k) marks = Stage k marks

  abbrev pub walk : Left Bool
  walk = each_with (net_holds ws) (replicate 4097 0) 1 (length e.nets)

  step : (i : ℕ) (marks : List ℕ) → i < suc (length e.nets) → StageAt i marks → ((net_holds ws marks i).is ≡ true) × StageAt (suc i) (net_holds ws marks i).ws
  step zero marks h g = absurd g
  step (suc k) marks h g =
      let z : k + 1 ≡ suc k = omega arith in
      subst (λ (i : ℕ). ((net_holds ws marks i).is ≡ true) × Stage (suc k) (net_holds ws marks i).ws) z (net_passes k marks (omega arith) g)

  -- all nets pass, and leave these marks
  pub all_nets : (walk.is ≡ true) × Stage (length e.nets) walk.ws
  all_nets =
      let b = m.header.few_nets in
      each_with_yes (net_holds ws) StageAt (suc (length e.nets)) (omega arith) step (length e.nets) 1 (replicate 4097 0) (omega arith) start

  -- every wait is met, for each net as many of its own as there are
  pub all_counted : (g : Stage (length e.nets) walk.ws) → g.count ≡ waits e
  all_counted g =
      let d : drop (length e.nets) e.nets ≡ [] = drop_of_length-le e.nets {i = length e.nets} (omega arith) in
      let z : sum (map (λ n. length n.awaiting) (drop (length e.nets) e.nets)) ≡ 0 = ap (λ (l : List Net). sum (map (λ n. length n.awaiting) l)) d in
      let c = g.counted in
      omega arith

  pub all_made : (g : Stage (length e.nets) walk.ws) (j : ℕ)
      → tally (λ i. g.marked.has (suc i) && eqb (wait_word ws (suc i) 1) (j + 1)) (used Waits ws) ≡ waits_of e.nets j
  all_made g j =
      let d : drop (length e.nets) e.nets ≡ [] = drop_of_length-le e.nets {i = length e.nets} (omega arith) in
      let z : waits_of (drop (length e.nets) e.nets) j ≡ 0 = ap (λ (l : List Net). waits_of l j) d in
      let c = g.made j in
      omega arith
