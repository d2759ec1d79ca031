-- The vacant slots: each in use once in the chain, where the slots that hold nodes are marked.
use Prim.Native.Nat.{ℕ, zero, suc, ◌+◌, ◌<◌, ◌≤◌}
use Rattle.std.specs.Prelude.{◌≡◌, ◌≢◌, ◌⊎◌, Bool, true, false, length, eqb, ltb}
use Rattle.std.proofs.Math.Path.{refl}
use Rattle.std.proofs.Common.{sym, ap, ◌∙◌, subst, inl, inr, length-append, eq-eqb, lt-ltb}
use Rattle.std.proofs.lemmas.Bool.{false≢true}
use Rattle.std.proofs.Math.Option.{Option, none, some}
use mathlib.Core.List.Memᴰ
use mathlib.Core.List.{List, [], ◌∷◌, ◌++◌, map, Memᴰ}
use native.Mathlib.Omega.{arith}
use Rattle.std.proofs.Math.Decide.{dec_lt, ℕ_discrete}
use Rattle.std.proofs.Math.ListN.{get_or}
use Rattle.std.proofs.lemmas.List.{length-map}
use Rattle.words.specs.Left.{Left}
use Rattle.net_file.specs.Lists.{bit}
use Rattle.net_file.specs.Values.{Name}
use Rattle.layout.specs.Layout.{less, node_word}
use Rattle.definitions.specs.Lists.{from, is_some}
use Rattle.definitions.specs.State.{Engine, graph_of}
use Rattle.join_laws.specs.Ports.{Frame, frame}
use Rattle.dirty_laws.specs.Tally.{tally}
use Rattle.good_laws.specs.Owners.{owners}
use Rattle.good_laws.specs.Good as Books
use Rattle.good_laws.specs.Good.{Good, rest}
use Rattle.good_laws.specs.Chain.{every_vacant}
use Rattle.chains.specs.Seg.{Seg, All, Once}
use Rattle.means.specs.Means.{SlotIs, Means}
use Rattle.image_chains.specs.Chains.{used, first_free, after, spot, low, vacant, free_hold, pool_holds}
use Rattle.image_chains.specs.declared.Pool.TheVariants.{Slots}
use Rattle.image_means.specs.InUse.{from_mem, owner_frame}
use Rattle.image_chains_means.specs.Alls.{all_mem}
use Rattle.image_chains_means.specs.Places.{Marked}
use Rattle.image_chains_means.specs.Chains.{Through, Free, pool_passes}
use Rattle.image_lists_means.specs.Nets.{under}

-- ---- lists

mem_from : (k n i : ℕ) → Memᴰ i (from k n) → k ≤ i
mem_from k zero i m = absurd (Memᴰ.not-nil m)
mem_from k (suc n) i m = go (Memᴰ.cases_cons m) (mem_from (suc k) n i)
  where
    go : (i ≡ k) ⊎ Memᴰ i (from (suc k) n) → (Memᴰ i (from (suc k) n) → suc k ≤ i) → k ≤ i
    go (inl e) ih = omega arith
    go (inr q) ih = let a = ih q in omega arith

length_from : (k n : ℕ) → length (from k n) ≡ n
length_from k zero = refl
length_from k (suc n) = ap suc (length_from (suc k) n)

-- no number twice: not in both parts
once_apart : (xs ys : List ℕ) → Books.Once (xs ++ ys) → (n : ℕ) → Memᴰ n xs → Memᴰ n ys → ⊥
once_apart [] ys o n a b = Memᴰ.not-nil a
once_apart (x ∷ xs) ys o n a b = go (Memᴰ.cases_cons a) (λ q. once_apart xs ys o.1 n q b)
  where
    go : (n ≡ x) ⊎ Memᴰ n xs → (Memᴰ n xs → ⊥) → ⊥
    go (inl e) ih = o.0 (subst (λ (j : ℕ). Memᴰ j (xs ++ ys)) e (Memᴰ.append_right xs b))
    go (inr q) ih = ih q

once_left : (xs ys : List ℕ) → Books.Once (xs ++ ys) → Books.Once xs
once_left [] ys o = tt
once_left (x ∷ xs) ys o = (λ q. o.0 (Memᴰ.append_left ys q), once_left xs ys o.1)

-- the places of slots: one more than their numbers
all_places : (P : ℕ → Type 0) (l : List ℕ) → ((n : ℕ) → Memᴰ n l → P (n + 1)) → All P (map (λ n. n + 1) l)
all_places P [] f = tt
all_places P (x ∷ l) f = (f x (Memᴰ.head refl), all_places P l (λ n q. f n (Memᴰ.tail q)))

places_once : (l : List ℕ) → Books.Once l → Once (map (λ n. n + 1) l)
places_once [] o = tt
places_once (x ∷ l) o = (all_places (λ d. d ≡ x + 1 → ⊥) l (λ n q e. o.0 (subst (λ (j : ℕ). Memᴰ j l) (omega arith) q)), places_once l o.1)

place_mem : (l : List ℕ) (n : ℕ) → Memᴰ n l → Memᴰ (n + 1) (map (λ n. n + 1) l)
place_mem [] n m = absurd (Memᴰ.not-nil m)
place_mem (x ∷ l) n m = go (Memᴰ.cases_cons m) (place_mem l n)
  where
    go : (n ≡ x) ⊎ Memᴰ n l → (Memᴰ n l → Memᴰ (n + 1) (map (λ n. n + 1) l)) → Memᴰ (n + 1) (map (λ n. n + 1) (x ∷ l))
    go (inl e) ih = Memᴰ.head (ap (λ j. j + 1) e)
    go (inr q) ih = Memᴰ.tail (ih q)

pub spots : (c : ℕ) → spot Slots c ≡ 16384 + c
unfolding spot
spots c = refl

module _ (Named : ℕ → Name → Type 0) (ws : List ℕ) (e : Engine) (m : Means Named ws e) (good : Good rest e) (marks : List ℕ)
    (seen : (n : ℕ) → n < e.pools.nodes → get_or marks (16385 + n) 0 ≡ bit (under (length e.nets) (get_or (owners (graph_of e)) n none))) (long : length marks ≡ 20481) where
  -- place c holds a node
  abbrev has : ℕ → Bool
  has zero = false
  has (suc n) = under (length e.nets) (get_or (owners (graph_of e)) n none)

  few : (get_or ws 9 0 ≤ e.pools.nodes) × (get_or ws 9 0 ≤ 4096)
  few = let a = m.vacant.all in let b = m.header.few_nodes in (omega arith, omega arith)

  slots_marked : Marked (used Slots ws) 16384 marks (tally (λ i. has (suc i)) (used Slots ws))
  unfolding used
  slots_marked = record { has = has; marked = at; counted = refl; room = let b = few.1 in omega arith }
    where
      at : (c : ℕ) → 0 < c → c ≤ get_or ws 9 0 → get_or marks (16384 + c) 0 ≡ bit (has c)
      at zero p l = absurd (omega arith)
      at (suc n) p l = let z : 16384 + suc n ≡ 16385 + n = omega arith in let b = few.0 in rw z (seen n (omega arith))

  -- ---- the chain

  chained : (n : ℕ) → Memᴰ n m.vacant.freed → Memᴰ n e.slots.chain
  chained n q = subst (Memᴰ n) (sym m.vacant.is) (Memᴰ.append_left (from (get_or ws 9 0) m.vacant.never) q)

  once : Books.Once (m.vacant.freed ++ from (get_or ws 9 0) m.vacant.never)
  once = subst Books.Once m.vacant.is good.slotted.once

  freed_used : (n : ℕ) → Memᴰ n m.vacant.freed → n < get_or ws 9 0
  freed_used n q = elim (dec_lt n (get_or ws 9 0)) [
    | yes h ↦ h
    | no h ↦
        let i = (good.slotted.vacant n (chained n q)).0 in
        let a = m.vacant.all in
        absurd (once_apart m.vacant.freed (from (get_or ws 9 0) m.vacant.never) once n q (from_mem m.vacant.never (get_or ws 9 0) n (omega arith) (omega arith)))
  ]

  vacant_word : (n : ℕ) → n < e.pools.nodes → get_or (owners (graph_of e)) n none ≡ none → node_word ws n 0 ≡ 0
  vacant_word n h v = go (frame (graph_of e) n) refl (m.nodes.slot n h)
    where
      go : (o : Option Frame) → frame (graph_of e) n ≡ o → SlotIs Named ws n o → node_word ws n 0 ≡ 0
      go none f w = w
      go (some x) f w = absurd (let p = owner_frame (graph_of e) n x f in let z : ◌≡◌ {A = ℕ} 0 1 = cc in omega arith)

  free_at : (n : ℕ) → Memᴰ n m.vacant.freed → Free Slots ws 16384 spots (n + 1)
  unfolding used vacant
  free_at n q =
      let l = freed_used n q in
      let v = good.slotted.vacant n (chained n q) in
      let b = few.1 in
      let z : less (n + 1) ≡ n = omega arith in
      record { pos = omega arith; low = omega arith; vacant = rw z (eq-eqb (node_word ws n 0) 0 (vacant_word n v.0 v.1)) }

  has_none : (n : ℕ) → Memᴰ n m.vacant.freed → has (n + 1) ≡ false
  has_none n q = let z : n + 1 ≡ suc n = omega arith in rw z (ap (under (length e.nets)) (good.slotted.vacant n (chained n q)).1)

  short : length (map (λ n. n + 1) m.vacant.freed) ≤ get_or ws 9 0
  short =
      let a = length-map m.vacant.freed (λ n. n + 1) in
      let b : length e.slots.chain ≡ length m.vacant.freed + m.vacant.never
      = ap (λ (l : List ℕ). length l) m.vacant.is ∙ length-append m.vacant.freed (from (get_or ws 9 0) m.vacant.never) ∙ ap (λ j. length m.vacant.freed + j) (length_from (get_or ws 9 0) m.vacant.never) in
      let c = good.slotted.all in
      let d = m.vacant.all in
      omega arith

  -- every slot in use holds a node or is in the chain
  all_met : (r : Left Bool) (t : Through (used Slots ws) 16384 (tally (λ i. has (suc i)) (used Slots ws)) has (map (λ n. n + 1) m.vacant.freed) r) (c : ℕ) → 0 < c → c ≤ get_or ws 9 0 → t.marked.has c ≡ true
  all_met r t zero p l = absurd (omega arith)
  all_met r t (suc n) p l = go (get_or (owners (graph_of e)) n none) refl
    where
      inside : n < e.pools.nodes
      inside = let b = few.0 in omega arith

      freed_one : Memᴰ n m.vacant.freed ⊎ Memᴰ n (from (get_or ws 9 0) m.vacant.never) → t.marked.has (suc n) ≡ true
      freed_one (inl q) =
          let z : n + 1 ≡ suc n = omega arith in
          subst (λ (c : ℕ). t.marked.has c ≡ true) z (all_mem (λ d. t.marked.has d ≡ true) (map (λ n. n + 1) m.vacant.freed) t.new (n + 1) (place_mem m.vacant.freed n q))
      freed_one (inr q) = absurd (let a = mem_from (get_or ws 9 0) m.vacant.never n q in omega arith)

      go : (o : Option ℕ) → get_or (owners (graph_of e)) n none ≡ o → t.marked.has (suc n) ≡ true
      go none v = freed_one (Memᴰ.append_cases m.vacant.freed (subst (Memᴰ n) m.vacant.is (every_vacant good.slotted n inside v)))
      go (some j) v = t.old (suc n) (ap (under (length e.nets)) v ∙ lt-ltb j (length e.nets) (good.slotted.owned n j v))

  -- `pool-holds` answers yes for the slots
  pub slots_pass : (pool_holds Slots ws marks).is ≡ true
  unfolding used first_free after low slots_marked
  slots_pass =
      let b = few.1 in
      pool_passes Slots ws 16384 spots (map (λ n. n + 1) m.vacant.freed) marks (tally (λ i. has (suc i)) (get_or ws 9 0)) slots_marked refl (omega arith) m.vacant.seg short
      (all_places (Free Slots ws 16384 spots) m.vacant.freed free_at) (places_once m.vacant.freed (once_left m.vacant.freed (from (get_or ws 9 0) m.vacant.never) once))
      (all_places (λ d. has d ≡ false) m.vacant.freed has_none) (λ t c p i. all_met _ t c p i)
