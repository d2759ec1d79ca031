-- The free chain of a pool: its places are new, each once, and where all places in use are then met the pool passes.
use Prim.Native.Nat.{ℕ, zero, suc, ◌+◌, ◌-◌, ◌<◌, ◌≤◌}
use Rattle.std.specs.Prelude.{◌≡◌, ◌≢◌, ◌⊎◌, Bool, false, ◌&&◌, length, set}
use Rattle.std.proofs.Math.Path.{refl, ap, subst}
use Rattle.std.proofs.Common.{sym, ◌∙◌, inl, inr, add-zero, eq-eqb}
use Rattle.std.proofs.Math.Bool.{true}
use mathlib.Core.List.{List, [], ◌∷◌, Memᴰ}
use native.Mathlib.Omega.{arith}
use Rattle.std.proofs.Math.ListN.{get_or, length-set}
use Rattle.std.proofs.Math.Seq.{get_or-set_other}
use Rattle.std.proofs.Math.Dec.{eqb}
use Rattle.words.specs.Choose.{eq_yes, eq_no, pick_true}
use Rattle.words.specs.Left.{Left}
use Rattle.net_file.specs.Lists
use Rattle.net_file.specs.Lists.{bit}
use Rattle.dirty_laws.specs.Tally.{tally}
use Rattle.chains.specs.Seg.{Seg, All, Once, all_map, all_map₂}
use Rattle.marks.specs.Marks.{clear, mark, met, all_met}
use Rattle.marks.specs.Walks.{says, chain}
use Rattle.image_chains.specs.declared.Pool.{Pool}
use Rattle.image_chains.specs.Chains.{used, first_free, after, spot, low, is_new, vacant, is_free, free_hold, pool_holds}
use Rattle.image_means.specs.Yes.{other_yes, most_yes, given_yes, each_yes}
use Rattle.image_means.specs.Meets.{on, on_same, on_other}
use Rattle.image_chains_means.specs.Places.{Marked, on_keeps, on_only, mark_place, mark_has, mark_tally, recount}

-- a walk over the places l went well: the marks then
pub record Through (u base count : ℕ) (has : ℕ → Bool) (l : List ℕ) (r : Left Bool) : Type 0 where
  pub yes : r.is ≡ true
  pub marked : Marked u base r.ws (count + length l)
  pub old : (d : ℕ) → has d ≡ true → marked.has d ≡ true
  pub new : All (λ d. marked.has d ≡ true) l
  pub only : (d : ℕ) → marked.has d ≡ true → (has d ≡ true) ⊎ Memᴰ d l
  pub tallied : (f : ℕ → Bool) → tally (λ i. marked.has (suc i) && f (suc i)) u ≡ tally (λ i. has (suc i) && f (suc i)) u + Lists.count f l

-- the marks of pool p: place c at base + c
module _ (p : Pool) (ws : List ℕ) (base : ℕ) (spots : (c : ℕ) → spot p c ≡ base + c) where
  -- a place in use that has no mark is new
  pub new_passes : {marks : List ℕ} {count : ℕ} (k : Marked (used p ws) base marks count) (c : ℕ) → 0 < c → c ≤ used p ws → k.has c ≡ false → is_new p ws marks c ≡ true
  unfolding is_new clear
  new_passes {marks} k c q l z =
      let e : get_or marks (spot p c) 0 ≡ 0 = ap (λ i. get_or marks i 0) (spots c) ∙ k.marked c q l ∙ ap bit z in
      other_yes _ _ _ (omega arith) (most_yes _ _ _ l (eq-eqb (get_or marks (spot p c) 0) 0 e))

  -- places in use, vacant
  pub record Free (c : ℕ) : Type 0 where
    pub pos : 0 < c
    pub low : c ≤ used p ws
    pub vacant : vacant p ws c ≡ true

  -- the next place of the chain
  free_passes : {marks : List ℕ} {count : ℕ} (k : Marked (used p ws) base marks count) (c : ℕ) → Free c → k.has c ≡ false → is_free p ws marks c ≡ true
  unfolding is_free
  free_passes k c f z = given_yes _ _ (new_passes k c f.pos f.low z) f.vacant

  -- one place, and those after it
  pub through_cons : {marks : List ℕ} {count : ℕ} (k : Marked (used p ws) base marks count) (c : ℕ) (q : 0 < c) (i : c ≤ used p ws) (z : k.has c ≡ false) (l : List ℕ) (r : Left Bool)
      → Through (used p ws) base (count + 1) (mark_place k c q i z).has l r → Through (used p ws) base count k.has (c ∷ l) r
  through_cons {count = count} k c q i z l r t = record {
    yes = t.yes;
    marked = recount t.marked (count + suc (length l)) (omega arith);
    old = λ d h. t.old d (mark_has k c q i z d ∙ on_keeps k.has c d h);
    new = (t.old c (mark_has k c q i z c ∙ on_same k.has c), t.new);
    only = λ d h. later d (t.only d h);
    tallied = λ f. let a = t.tallied f in let b = mark_tally k c q i z f in omega arith;
  }
    where
      here : (d : ℕ) → (k.has d ≡ true) ⊎ (d ≡ c) → (k.has d ≡ true) ⊎ Memᴰ d (c ∷ l)
      here d (inl h) = inl h
      here d (inr e) = inr (Memᴰ.head e)

      later : (d : ℕ) → ((mark_place k c q i z).has d ≡ true) ⊎ Memᴰ d l → (k.has d ≡ true) ⊎ Memᴰ d (c ∷ l)
      later d (inl h) = here d (on_only k.has c d (sym (mark_has k c q i z d) ∙ h))
      later d (inr m) = inr (Memᴰ.tail m)

  -- the rest has no mark yet
  pub still_new : {marks : List ℕ} {count : ℕ} (k : Marked (used p ws) base marks count) (c : ℕ) (q : 0 < c) (i : c ≤ used p ws) (z : k.has c ≡ false) (l : List ℕ)
      → All (λ d. d ≡ c → ⊥) l → All (λ d. k.has d ≡ false) l → All (λ d. (mark_place k c q i z).has d ≡ false) l
  still_new k c q i z l a b = all_map₂ (λ d n h. mark_has k c q i z d ∙ on_other k.has c d n ∙ h) l a b

  pub none_left : {marks : List ℕ} {count : ℕ} (k : Marked (used p ws) base marks count) → Through (used p ws) base count k.has [] (says true marks)
  none_left {count = count} k = record {
    yes = refl;
    marked = recount k (count + 0) (add-zero count);
    old = λ d h. h;
    new = tt;
    only = λ d h. inl h;
    tallied = λ f. sym (add-zero _);
  }

  -- one place on
  chain_turn : {marks : List ℕ} {count : ℕ} (m : Marked (used p ws) base marks count) (c d k : ℕ) → c ≡ d → Free d → m.has d ≡ false
      → free_hold p ws (set marks (base + d) 1) (after p ws d) k ≡ free_hold p ws marks c (suc k)
  unfolding chain mark
  chain_turn m c d k e q z = let y = q.pos in rw e (eq_no d 0 _ _ (omega arith) (pick_true _ _ _ (free_passes m d q z) (rw (spots d) refl)))

  pub chain_passes : (l marks : List ℕ) (c k count : ℕ) → Seg (after p ws) c l 0 → length l ≤ k → All Free l → Once l → (m : Marked (used p ws) base marks count) → All (λ d. m.has d ≡ false) l
      → Through (used p ws) base count m.has l (free_hold p ws marks c k)
  unfolding chain mark
  chain_passes [] marks c zero count s h f o m n = rw (eq-eqb c 0 s) (none_left m)
  chain_passes [] marks c (suc k) count s h f o m n = subst (Through (used p ws) base count m.has []) (eq_yes c 0 _ _ s refl) (none_left m)
  chain_passes (d ∷ l) marks c zero count s h f o m n = absurd (omega arith)
  chain_passes (d ∷ l) marks c (suc k) count s h f o m n =
      let q = f.0 in
      let m' = mark_place m d q.pos q.low n.0 in
      let t = chain_passes l (set marks (base + d) 1) (after p ws d) k (count + 1) s.1 (omega arith) f.1 o.1 m' (still_new m d q.pos q.low n.0 l o.0 n.1) in
      subst (Through (used p ws) base count m.has (d ∷ l)) (chain_turn m c d k s.0 q n.0)
      (through_cons m d q.pos q.low n.0 l _ t)

  -- as long, and the same but for the pool's places
  abbrev pub Kept : Left Bool → List ℕ → Type 0
  Kept r marks = (length r.ws ≡ length marks) × ((i : ℕ) → ((d : ℕ) → 0 < d → d ≤ used p ws → i ≢ base + d) → get_or r.ws i 0 ≡ get_or marks i 0)

  -- marks elsewhere stay
  pub chain_others : (l marks : List ℕ) (c k count : ℕ) → Seg (after p ws) c l 0 → length l ≤ k → All Free l → Once l → (m : Marked (used p ws) base marks count) → All (λ d. m.has d ≡ false) l
      → Kept (free_hold p ws marks c k) marks
  unfolding chain mark
  chain_others [] marks c zero count s h f o m n = (refl, λ i a. refl)
  chain_others [] marks c (suc k) count s h f o m n = subst (λ (r : Left Bool). Kept r marks) (eq_yes c 0 _ _ s refl) (refl, λ i a. refl)
  chain_others (d ∷ l) marks c zero count s h f o m n = absurd (omega arith)
  chain_others (d ∷ l) marks c (suc k) count s h f o m n =
      let q = f.0 in
      let m' = mark_place m d q.pos q.low n.0 in
      let t = chain_others l (set marks (base + d) 1) (after p ws d) k (count + 1) s.1 (omega arith) f.1 o.1 m' (still_new m d q.pos q.low n.0 l o.0 n.1) in
      subst (λ (r : Left Bool). Kept r marks) (chain_turn m c d k s.0 q n.0)
      (t.0 ∙ length-set marks (base + d) 1, λ i a. t.1 i a ∙ get_or-set_other marks (base + d) i 1 0 (a d q.pos q.low))

  -- what the pool's test leaves
  pub pool_left : (marks : List ℕ) → (pool_holds p ws marks).ws ≡ (free_hold p ws marks (first_free p ws) (used p ws)).ws
  unfolding pool_holds
  pool_left marks = refl

  -- `pool-holds` answers yes, where every place in use has then been met
  pub pool_passes : (l marks : List ℕ) (count : ℕ) (m : Marked (used p ws) base marks count) → low p ≡ base + 1 → base + used p ws < 4294967295
      → Seg (after p ws) (first_free p ws) l 0 → length l ≤ used p ws → All Free l → Once l → All (λ d. m.has d ≡ false) l
      → ((t : Through (used p ws) base count m.has l (free_hold p ws marks (first_free p ws) (used p ws))) → (c : ℕ) → 0 < c → c ≤ used p ws → t.marked.has c ≡ true)
      → (pool_holds p ws marks).is ≡ true
  unfolding pool_holds all_met met
  pool_passes l marks count m el b s h f o n all =
      let t = chain_passes l marks (first_free p ws) (used p ws) count s h f o m n in
      given_yes _ _ t.yes (rw el (each_yes _ (base + 1) (used p ws) (omega arith) (λ j lo hi. go t j lo hi)))
    where
      go : (t : Through (used p ws) base count m.has l (free_hold p ws marks (first_free p ws) (used p ws))) (j : ℕ) → base + 1 ≤ j → j < base + 1 + used p ws
          → eqb (get_or (free_hold p ws marks (first_free p ws) (used p ws)).ws j 0) 1 ≡ true
      go t j lo hi =
          let c = j - base in
          let e : j ≡ base + c = omega arith in
          rw e (eq-eqb (get_or (free_hold p ws marks (first_free p ws) (used p ws)).ws (base + c) 0) 1
          (t.marked.marked c (omega arith) (omega arith) ∙ ap bit (all t c (omega arith) (omega arith))))
