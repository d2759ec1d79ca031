-- A list that keeps its books. Document 01: "list lengths, stale counts (under half a nonzero capacity) .. that agree with what is
-- stored". It serves the dirty list, where a number is live while its slot holds a dirty node, and each node list alike.
use Rattle.std.specs.Prelude.{ℕ, suc, ◌+◌, ◌*◌, ◌-◌, ◌≤◌, ◌<◌, ◌≡◌, refl, ◌≢◌, ◌⊎◌, Bool, true, false, cond, length, eqb, leb}
use Rattle.std.proofs.Common.{sym, ap, ◌∙◌, subst, inl, inr, arith, true≢false, length-append, eqb-true, leb-false}
use Rattle.std.proofs.Math.Path.{fun_ext}
use Rattle.std.proofs.Math.Decide.{ℕ_discrete}
use Rattle.std.proofs.lemmas.Bool.{false≢true, eqb-false}
use Rattle.std.proofs.Math.Option.{Option, none, some, some-injective}
use mathlib.Core.List.Memᴰ
use mathlib.Core.List.{List, [], ◌∷◌, ◌++◌, Memᴰ}
use Rattle.net_file.specs.Lists.{bit, any}
use Rattle.definitions.specs.Lists.{keep, firsts, unsnoc}
use Rattle.definitions.specs.State.{Ids, with_stale}
use Rattle.definitions.specs.Books.{grown, push, tight, loose}
use Rattle.dirty_laws.specs.Tally.{tally, tally_at, tally_most, tally_none}
use Rattle.dirty_laws.specs.Firsts.{holds_all, keep_mem, keep_true, firsts_mem, tight_count}

-- "capacity 0, then 4, then doubles"
pub data Capacity : ℕ → Type 0 where
  nought : Capacity 0
  four : Capacity 4
  twice : {c : ℕ} → Capacity c → Capacity (2 * c)

-- N slots; every entry is below N; every live number is in the list; what the list holds beyond the live ones is its stale count; it is
-- within its capacity, its stale entries are under half of a nonzero capacity, and the capacity is within 4N + 4
pub record Listed (N : ℕ) (live : ℕ → Bool) (l : Ids) : Type 0 where
  pub slots : (n : ℕ) → Memᴰ n l.items → n < N
  pub grows : Capacity l.capacity
  pub within : (n : ℕ) → live n ≡ true → n < N
  pub there : (n : ℕ) → live n ≡ true → Memᴰ n l.items
  pub counted : length l.items ≡ tally live N + l.stale
  pub room : length l.items ≤ l.capacity
  pub half : 2 * l.stale ≤ l.capacity - 1
  pub bound : l.capacity ≤ 4 * N + 4

-- live' is live but for n, where it is b
pub record Turns (live live' : ℕ → Bool) (n : ℕ) (b : Bool) : Type 0 where
  pub now : live' n ≡ b
  pub others : (i : ℕ) → i ≢ n → live' i ≡ live i

-- what goes for a test that is true
turned_off : {live live' : ℕ → Bool} {n : ℕ} → Turns live live' n false → (i : ℕ) → live' i ≡ true → (live i ≡ true) × (i ≢ n)
turned_off {live} {live'} {n} t i h =
    let d : i ≢ n = λ s. false≢true (sym t.now ∙ ap live' (sym s) ∙ h) in
    (sym (t.others i d) ∙ h, d)

-- ---- one more

-- the capacity after a push stays within 4N + 4, and the push fits
grown_fits : (N t stale len c : ℕ) → t < N → len ≡ t + stale → len ≤ c → 2 * stale ≤ c - 1 → c ≤ 4 * N + 4
    → (suc len ≤ grown c len) × (c ≤ grown c len) × (grown c len ≤ 4 * N + 4)
unfolding grown
grown_fits N t stale len c h e l k b = go (eqb len c) refl (eqb c 0) refl
  where
    go : (x : Bool) → eqb len c ≡ x → (y : Bool) → eqb c 0 ≡ y
        → (suc len ≤ cond x (cond y 4 (2 * c)) c) × (c ≤ cond x (cond y 4 (2 * c)) c) × (cond x (cond y 4 (2 * c)) c ≤ 4 * N + 4)
    go true p true q = let u = eqb-true len c p in let w = eqb-true c 0 q in (omega arith, omega arith, omega arith)
    go true p false q = let u = eqb-true len c p in let w = eqb-false c 0 q in (omega arith, omega arith, omega arith)
    go false p y q = let u = eqb-false len c p in (omega arith, omega arith, b)

grown_grows : (len c : ℕ) → Capacity c → Capacity (grown c len)
unfolding grown
grown_grows len c h = go (eqb len c) (eqb c 0)
  where
    go : (x y : Bool) → Capacity (cond x (cond y 4 (2 * c)) c)
    go true true = four
    go true false = twice h
    go false y = h

-- a number becomes live, and gets an entry
pub listed_push : (N : ℕ) (live live' : ℕ → Bool) (l : Ids) (n : ℕ) → Listed N live l → n < N → live n ≡ false → Turns live live' n true
    → Listed N live' (push n l)
unfolding push
listed_push N live live' l n b below was t =
    let a = tally_at live live' n N below t.others in
    let x : bit (live n) ≡ 0 = ap bit was in
    let y : bit (live' n) ≡ 1 = ap bit t.now in
    let most = tally_most live' N in
    let f : tally live N < N = omega arith in
    let g = grown_fits N (tally live N) l.stale (length l.items) l.capacity f b.counted b.room b.half b.bound in
    let e : length (l.items ++ n ∷ []) ≡ suc (length l.items) = length-append l.items (n ∷ []) ∙ omega arith in
    let c = b.counted in
    let k = b.half in
    let g₀ = g.0 in
    let g₁ = g.1 in
    record {
      slots = λ i m. slot i (Memᴰ.append_cases l.items m);
      grows = grown_grows (length l.items) l.capacity b.grows;
      within = λ i h. low i h (ℕ_discrete i n);
      there = λ i h. place i h (ℕ_discrete i n);
      counted = omega arith;
      room = omega arith;
      half = omega arith;
      bound = g.2;
    }
  where
    slot : (i : ℕ) → Memᴰ i l.items ⊎ Memᴰ i (n ∷ []) → i < N
    slot i (inl m) = b.slots i m
    slot i (inr m) = subst (λ (j : ℕ). j < N) (sym (Memᴰ.eq_of_singleton m)) below

    low : (i : ℕ) → live' i ≡ true → Dec (i ≡ n) → i < N
    low i h (yes s) = omega arith
    low i h (no d) = b.within i (sym (t.others i d) ∙ h)

    place : (i : ℕ) → live' i ≡ true → Dec (i ≡ n) → Memᴰ i (l.items ++ n ∷ [])
    place i h (yes s) = Memᴰ.append_right l.items (Memᴰ.head s)
    place i h (no d) = Memᴰ.append_left (n ∷ []) (b.there i (sym (t.others i d) ∙ h))

-- ---- tightened

firsts_in : (xs seen : List ℕ) (n : ℕ) → Memᴰ n (firsts eqb seen xs) → Memᴰ n xs
firsts_in [] seen n m = m
firsts_in (x ∷ xs) seen n m = go (any (eqb x) seen) m (λ s. firsts_in xs s n)
  where
    go : (t : Bool) → Memᴰ n (elim t as (λ _. List ℕ) [ true ↦ firsts eqb seen xs | false ↦ x ∷ firsts eqb (x ∷ seen) xs ])
        → ((s : List ℕ) → Memᴰ n (firsts eqb s xs) → Memᴰ n xs) → Memᴰ n (x ∷ xs)
    go true k r = Memᴰ.tail (r seen k)
    go false k r = via (Memᴰ.cases_cons k)
      where
        via : (n ≡ x) ⊎ Memᴰ n (firsts eqb (x ∷ seen) xs) → Memᴰ n (x ∷ xs)
        via (inl e) = Memᴰ.head e
        via (inr q) = Memᴰ.tail (r (x ∷ seen) q)

tight_listed : (N : ℕ) (live : ℕ → Bool) (l : Ids) → ((n : ℕ) → live n ≡ true → n < N) → ((n : ℕ) → live n ≡ true → Memᴰ n l.items)
    → length l.items ≤ l.capacity → l.capacity ≤ 4 * N + 4 → Capacity l.capacity → Listed N live (tight live l)
unfolding tight
tight_listed N live l w h r c g =
    let e = tight_count l.items live N w h in
    let k = holds_all l.items live N h in
    record {
      slots = λ n m. w n (keep_true live l.items n (firsts_in (keep live l.items) [] n m));
      grows = g;
      within = w;
      there = λ n m. firsts_mem (keep live l.items) [] n (keep_mem live l.items n m (h n m)) (λ s. Memᴰ.not-nil s);
      counted = omega arith;
      room = omega arith;
      half = omega arith;
      bound = c;
    }

pub listed_tight : (N : ℕ) (live : ℕ → Bool) (l : Ids) → Listed N live l → Listed N live (tight live l)
listed_tight N live l b = tight_listed N live l b.within b.there b.room b.bound b.grows

-- ---- one less

-- an entry is stale; "Where twice the count reaches the list's capacity", the list is tightened
abbrev pub went_stale : (ℕ → Bool) → Ids → Ids
went_stale live l =
    let l₁ = with_stale (l.stale + 1) l in
    elim (loose l₁) as (λ _. Ids) [ true ↦ tight live l₁ | false ↦ l₁ ]

-- a live number is live no more, and its entry stays
pub listed_gone : (N : ℕ) (live live' : ℕ → Bool) (l : Ids) (n : ℕ) → Listed N live l → live n ≡ true → Turns live live' n false
    → Listed N live' (went_stale live' l)
unfolding with_stale loose
listed_gone N live live' l n b was t = go (leb l.capacity (2 * (l.stale + 1))) refl
  where
    l₁ : Ids
    l₁ = record { items = l.items; capacity = l.capacity; stale = l.stale + 1 }

    go : (x : Bool) → leb l.capacity (2 * (l.stale + 1)) ≡ x → Listed N live' (elim x as (λ _. Ids) [ true ↦ tight live' l₁ | false ↦ l₁ ])
    go true e = tight_listed N live' l₁ (λ i h. b.within i (turned_off t i h).0) (λ i h. b.there i (turned_off t i h).0) b.room b.bound b.grows
    go false e =
        let a = tally_at live live' n N (b.within n was) t.others in
        let x : bit (live n) ≡ 1 = ap bit was in
        let y : bit (live' n) ≡ 0 = ap bit t.now in
        let u = leb-false l.capacity (2 * (l.stale + 1)) e in
        let c = b.counted in
        record {
          slots = b.slots;
          grows = b.grows;
          within = λ i h. b.within i (turned_off t i h).0;
          there = λ i h. b.there i (turned_off t i h).0;
          counted = omega arith;
          room = b.room;
          half = omega arith;
          bound = b.bound;
        }

-- ---- the last entry taken

empty_none : (xs : List ℕ) → unsnoc xs ≡ none → xs ≡ []
empty_none [] h = refl
empty_none (x ∷ xs) h = absurd (go (unsnoc xs) h)
  where
    go : (o : Option (List ℕ × ℕ))
        → ◌≡◌ {A = Option (List ℕ × ℕ)} (elim o as (λ _. Option (List ℕ × ℕ)) [ none ↦ some ([], x) | some q ↦ some (x ∷ q.0, q.1) ]) none → ⊥
    go none k = let z : ◌≡◌ {A = ℕ} 0 1 = cc in omega arith
    go (some q) k = let z : ◌≡◌ {A = ℕ} 0 1 = cc in omega arith

pub unsnoc_snoc : (ns : List ℕ) (p : List ℕ × ℕ) → unsnoc ns ≡ some p → ns ≡ p.0 ++ p.1 ∷ []
unsnoc_snoc [] p h = absurd (let z : ◌≡◌ {A = ℕ} 0 1 = cc in omega arith)
unsnoc_snoc (x ∷ xs) p h = go (unsnoc xs) refl (λ q. unsnoc_snoc xs q) h
  where
    Ends : List ℕ × ℕ → Type 0
    Ends q = x ∷ xs ≡ q.0 ++ q.1 ∷ []

    go : (o : Option (List ℕ × ℕ)) → unsnoc xs ≡ o → ((q : List ℕ × ℕ) → unsnoc xs ≡ some q → xs ≡ q.0 ++ q.1 ∷ [])
        → elim o as (λ _. Option (List ℕ × ℕ)) [ none ↦ some ([], x) | some q ↦ some (x ∷ q.0, q.1) ] ≡ some p → x ∷ xs ≡ p.0 ++ p.1 ∷ []
    go none e ih k = subst Ends (some-injective _ _ k) (ap (λ (ys : List ℕ). x ∷ ys) (empty_none xs e))
    go (some q) e ih k = subst Ends (some-injective _ _ k) (ap (λ (ys : List ℕ). x ∷ ys) (ih q e))

without : (xs : List ℕ) (n m : ℕ) → Memᴰ m (xs ++ n ∷ []) → m ≢ n → Memᴰ m xs
without xs n m h d = go (Memᴰ.append_cases xs h)
  where
    go : Memᴰ m xs ⊎ Memᴰ m (n ∷ []) → Memᴰ m xs
    go (inl t) = t
    go (inr s) = absurd (d (Memᴰ.eq_of_singleton s))

-- the last entry's number was live, and is so no more
pub listed_taken : (N : ℕ) (live live' : ℕ → Bool) (l : Ids) (xs : List ℕ) (n : ℕ) → Listed N live l → l.items ≡ xs ++ n ∷ [] → live n ≡ true
    → Turns live live' n false → Listed N live' (record { items = xs; capacity = l.capacity; stale = l.stale })
listed_taken N live live' l xs n b last was t =
    let e : length (xs ++ n ∷ []) ≡ suc (length xs) = length-append xs (n ∷ []) ∙ omega arith in
    let f : length l.items ≡ length (xs ++ n ∷ []) = ap length last in
    let a = tally_at live live' n N (b.within n was) t.others in
    let x : bit (live n) ≡ 1 = ap bit was in
    let y : bit (live' n) ≡ 0 = ap bit t.now in
    let c = b.counted in
    let r = b.room in
    record {
      slots = λ i m. b.slots i (subst (Memᴰ i) (sym last) (Memᴰ.append_left (n ∷ []) m));
      grows = b.grows;
      within = λ i h. b.within i (turned_off t i h).0;
      there = λ i h. let d = turned_off t i h in without xs n i (subst (Memᴰ i) last (b.there i d.0)) d.1;
      counted = omega arith;
      room = omega arith;
      half = b.half;
      bound = b.bound;
    }

-- the last entry was stale
pub listed_dropped : (N : ℕ) (live : ℕ → Bool) (l : Ids) (xs : List ℕ) (n : ℕ) → Listed N live l → l.items ≡ xs ++ n ∷ [] → live n ≡ false
    → Listed N live (record { items = xs; capacity = l.capacity; stale = l.stale - 1 })
listed_dropped N live l xs n b last was =
    let e : length (xs ++ n ∷ []) ≡ suc (length xs) = length-append xs (n ∷ []) ∙ omega arith in
    let f : length l.items ≡ length (xs ++ n ∷ []) = ap length last in
    let in' : (i : ℕ) → live i ≡ true → Memᴰ i xs =
    λ i h. without xs n i (subst (Memᴰ i) last (b.there i h)) (λ s. true≢false (sym h ∙ ap live s ∙ was)) in
    let k = holds_all xs live N in' in
    let c = b.counted in
    let r = b.room in
    let u = b.half in
    record { slots = λ i m. b.slots i (subst (Memᴰ i) (sym last) (Memᴰ.append_left (n ∷ []) m)); grows = b.grows; within = b.within; there = in'; counted = omega arith; room = omega arith; half = omega arith; bound = b.bound }

-- ---- a new list, and one test for another

pub listed_new : (N : ℕ) (live : ℕ → Bool) → ((n : ℕ) → live n ≡ false) → Listed N live (record { items = []; capacity = 0; stale = 0 })
listed_new N live h =
    let e = tally_none live N (λ i l. h i) in
    record {
      slots = λ n m. absurd (Memᴰ.not-nil m);
      grows = nought;
      within = λ n m. absurd (false≢true (sym (h n) ∙ m));
      there = λ n m. absurd (false≢true (sym (h n) ∙ m));
      counted = omega arith;
      room = omega arith;
      half = omega arith;
      bound = omega arith;
    }

pub listed_same : (N : ℕ) (live live' : ℕ → Bool) (l : Ids) → Listed N live l → ((n : ℕ) → live n ≡ live' n) → Listed N live' l
listed_same N live live' l b h = subst (λ (f : ℕ → Bool). Listed N f l) (fun_ext h) b
