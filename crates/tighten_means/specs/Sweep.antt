-- The pass over the dirty list: what it leaves in the words, entry by entry.
use Rattle.std.specs.Prelude.{ℕ, zero, suc, ◌+◌, ◌*◌, ◌/◌, ◌%◌, ◌<◌, ◌≤◌, ◌≡◌, ◌≢◌, ◌⊎◌, Bool, true, false, length, set}
use Rattle.std.proofs.Math.Path.{refl}
use Rattle.std.proofs.Common.{sym, ap, ◌∙◌, subst, inl, inr, length-set, length-append, get_or-set_same, get_or-set_other}
use mathlib.Core.List.Memᴰ
use mathlib.Core.List.{List, [], ◌∷◌, ◌++◌, Memᴰ, append-nil, append_assoc}
use Rattle.std.proofs.Math.ListN.{get_or, get_or-append}
use Rattle.std.proofs.Math.Seq.{get_or-append_seam}
use native.Mathlib.Omega.{arith}
use Rattle.std.proofs.Math.Decide.{ℕ_discrete}
use Rattle.words.specs.Choose.{if_eq, eq_yes, eq_no}
use Rattle.words.specs.Left.{Left}
use Rattle.layout.specs.Layout.{next, node_at, node_word, set_node_word, dirty_at}
use Rattle.lists.specs.Lists.{dirty_node, keep_dirty, sweep_dirty_from}
use Rattle.net_file.specs.Lists.{bit}
use Rattle.dirty_laws.specs.Tally.{off, off_same, off_other}
use Rattle.chains.specs.Seg.{All, all_append}
use Rattle.means.specs.Frame.{Rest, rest_set, rest_trans, OutMarks, OutDirty}
use Rattle.tighten_means.specs.Sieve.{sieve}

-- all but the marks and the dirty list
abbrev pub OutBoth : ℕ → ℕ → Type 0
OutBoth N i = OutMarks N i × OutDirty N i

-- of the list, K are kept, and R are left, from entry i on; b is what the marks say, b₀ what they said at first
pub record Pass (N : ℕ) (b₀ : ℕ → Bool) (ws₀ ws : List ℕ) (b : ℕ → Bool) (K R : List ℕ) (i : ℕ) : Type 0 where
  pub rest : Rest (OutBoth N) ws₀ ws
  pub capacity : get_or ws 15 0 ≡ get_or ws₀ 15 0
  pub behind : length K ≤ i
  pub room : i + length R ≤ 4 * N + 4
  pub kept : (j : ℕ) → j < length K → get_or ws (dirty_at j) 0 ≡ get_or K j 0
  pub left : (j : ℕ) → j < length R → get_or ws (dirty_at (i + j)) 0 ≡ get_or R j 0
  pub mark : (n : ℕ) → n < N → node_word ws n 2 ≡ bit (b n)
  pub was : (n : ℕ) → (b n ≡ b₀ n) ⊎ ((b₀ n ≡ true) × Memᴰ n K)
  pub live : All (λ x. (x < N) × (b₀ x ≡ true)) K
  pub inside : All (λ x. x < N) R

-- what the pass leaves
pub record Swept (N : ℕ) (b₀ : ℕ → Bool) (ws₀ ws : List ℕ) (K : List ℕ) : Type 0 where
  pub rest : Rest (OutBoth N) ws₀ ws
  pub length_is : get_or ws 14 0 ≡ length K
  pub capacity : get_or ws 15 0 ≡ get_or ws₀ 15 0
  pub stale : get_or ws 16 0 ≡ 0
  pub room : length K ≤ 4 * N + 4
  pub kept : (j : ℕ) → j < length K → get_or ws (dirty_at j) 0 ≡ get_or K j 0
  pub mark : (n : ℕ) → n < N → (node_word ws n 2 ≡ bit (b₀ n)) ⊎ ((b₀ n ≡ true) × Memᴰ n K)
  pub live : All (λ x. (x < N) × (b₀ x ≡ true)) K

module _ (N : ℕ) (b₀ : ℕ → Bool) (ws₀ : List ℕ) (long : 5216 + 32 * N ≤ length ws₀) where
  -- the end
  closed : (ws : List ℕ) (b : ℕ → Bool) (K : List ℕ) (i : ℕ) → Pass N b₀ ws₀ ws b K [] i → Swept N b₀ ws₀ (set (set ws 14 (length K)) 16 0) K
  closed ws b K i p =
      let l0 = p.rest.long in
      let w1 = set ws 14 (length K) in
      let w = set w1 16 0 in
      let l1 : length w1 ≡ length ws = length-set ws 14 (length K) in
      let other : (j : ℕ) → j ≢ 14 → j ≢ 16 → get_or w j 0 ≡ get_or ws j 0 = λ j a c. get_or-set_other w1 16 j 0 0 c ∙ get_or-set_other ws 14 j (length K) 0 a in
      record {
        rest = rest_trans p.rest (rest_trans (rest_set (OutBoth N) ws 14 (length K) (λ j o d. o.1.0 (omega arith))) (rest_set (OutBoth N) w1 16 0 (λ j o d. o.1.0 (omega arith))));
        length_is = get_or-set_other w1 16 14 0 0 (omega arith) ∙ get_or-set_same ws 14 (length K) 0 (omega arith);
        capacity = other 15 (omega arith) (omega arith) ∙ p.capacity;
        stale = get_or-set_same w1 16 0 0 (omega arith);
        room = let a = p.room in let c = p.behind in omega arith;
        kept = λ j h. other _ (omega arith) (omega arith) ∙ p.kept j h;
        mark = λ n h. go n h (p.was n);
        live = p.live;
      }
    where
      go : (n : ℕ) → n < N → (b n ≡ b₀ n) ⊎ ((b₀ n ≡ true) × Memᴰ n K)
          → (node_word (set (set ws 14 (length K)) 16 0) n 2 ≡ bit (b₀ n)) ⊎ ((b₀ n ≡ true) × Memᴰ n K)
      go n h (inl e) =
          inl (get_or-set_other (set ws 14 (length K)) 16 (node_at n 2) 0 0 (omega arith) ∙ get_or-set_other ws 14 (node_at n 2) (length K) 0 (omega arith) ∙ p.mark n h ∙ ap bit e)
      go n h (inr e) = inr e

  -- an entry whose node is dirty and in no place yet
  kept_turn : (ws : List ℕ) (b : ℕ → Bool) (K R : List ℕ) (x i : ℕ) → Pass N b₀ ws₀ ws b K (x ∷ R) i → b x ≡ true
      → Pass N b₀ ws₀ (set (set_node_word ws x 2 0) (dirty_at (length K)) x) (off b x) (K ++ x ∷ []) R (i + 1)
  kept_turn ws b K R x i p t =
      let l0 = p.rest.long in
      let h : x < N = p.inside.0 in
      let r = p.room in
      let c = p.behind in
      let lk = length-append K (x ∷ []) in
      let w1 = set_node_word ws x 2 0 in
      let w = set w1 (dirty_at (length K)) x in
      let l1 : length w1 ≡ length ws = length-set ws (node_at x 2) 0 in
      record {
        rest = rest_trans p.rest (rest_trans (rest_set (OutBoth N) ws (node_at x 2) 0 (λ j o d. o.0 (omega arith)))
            (rest_set (OutBoth N) w1 (dirty_at (length K)) x (λ j o d. o.1.1 (omega arith))));
        capacity = get_or-set_other w1 (dirty_at (length K)) 15 x 0 (omega arith) ∙ get_or-set_other ws (node_at x 2) 15 0 0 (omega arith) ∙ p.capacity;
        behind = omega arith;
        room = omega arith;
        kept = λ j a. places j (omega arith) (ℕ_discrete j (length K));
        left = λ j a.
            let s : i + 1 + j ≡ i + suc j = omega arith in
            let q : get_or ws (dirty_at (i + 1 + j)) 0 ≡ get_or R j 0 = rw s (p.left (suc j) (omega arith)) in
            get_or-set_other w1 (dirty_at (length K)) (dirty_at (i + 1 + j)) x 0 (omega arith) ∙ get_or-set_other ws (node_at x 2) (dirty_at (i + 1 + j)) 0 0 (omega arith)
            ∙ q;
        mark = λ n a. marks n a (ℕ_discrete n x);
        was = λ n. said n (ℕ_discrete n x) (p.was n);
        live = all_append (λ y. (y < N) × (b₀ y ≡ true)) K (x ∷ []) p.live ((h, true_first (p.was x)), tt);
        inside = p.inside.1;
      }
    where
      places : (j : ℕ) → j < length K + 1 → Dec (j ≡ length K) → get_or (set (set_node_word ws x 2 0) (dirty_at (length K)) x) (dirty_at j) 0 ≡ get_or (K ++ x ∷ []) j 0
      places j a (yes d) =
          let l0 = p.rest.long in
          let r = p.room in
          let c = p.behind in
          let l1 : length (set_node_word ws x 2 0) ≡ length ws = length-set ws (node_at x 2) 0 in
          rw d (get_or-set_same (set_node_word ws x 2 0) (dirty_at (length K)) x 0 (omega arith) ∙ sym (get_or-append_seam K x [] 0))
      places j a (no d) =
          get_or-set_other (set_node_word ws x 2 0) (dirty_at (length K)) (dirty_at j) x 0 (omega arith)
          ∙ get_or-set_other ws (node_at x 2) (dirty_at j) 0 0 (omega arith) ∙ p.kept j (omega arith) ∙ sym (get_or-append K (x ∷ []) 0 j (omega arith))

      marks : (n : ℕ) → n < N → Dec (n ≡ x) → node_word (set (set_node_word ws x 2 0) (dirty_at (length K)) x) n 2 ≡ bit (off b x n)
      marks n a (yes d) =
          let l0 = p.rest.long in
          let z : bit (off b x x) ≡ 0 = ap bit (off_same b x) in
          rw (d, z) (get_or-set_other (set_node_word ws x 2 0) (dirty_at (length K)) (node_at x 2) x 0 (omega arith) ∙ get_or-set_same ws (node_at x 2) 0 0 (omega arith))
      marks n a (no d) =
          get_or-set_other (set_node_word ws x 2 0) (dirty_at (length K)) (node_at n 2) x 0 (omega arith)
          ∙ get_or-set_other ws (node_at x 2) (node_at n 2) 0 0 (omega arith) ∙ p.mark n a ∙ ap bit (sym (off_other b x n d))

      true_first : (b x ≡ b₀ x) ⊎ ((b₀ x ≡ true) × Memᴰ x K) → b₀ x ≡ true
      true_first (inl e) = sym e ∙ t
      true_first (inr e) = e.0

      said : (n : ℕ) → Dec (n ≡ x) → (b n ≡ b₀ n) ⊎ ((b₀ n ≡ true) × Memᴰ n K) → (off b x n ≡ b₀ n) ⊎ ((b₀ n ≡ true) × Memᴰ n (K ++ x ∷ []))
      said n (yes d) e = inr (ap b₀ d ∙ true_first (p.was x), Memᴰ.append_right K (Memᴰ.head d))
      said n (no d) (inl e) = inl (off_other b x n d ∙ e)
      said n (no d) (inr e) = inr (e.0, Memᴰ.append_left (x ∷ []) e.1)

  -- an entry that goes
  left_turn : (ws : List ℕ) (b : ℕ → Bool) (K R : List ℕ) (x i : ℕ) → Pass N b₀ ws₀ ws b K (x ∷ R) i → Pass N b₀ ws₀ ws b K R (i + 1)
  left_turn ws b K R x i p =
      let r = p.room in
      let c = p.behind in
      record {
        rest = p.rest;
        capacity = p.capacity;
        behind = omega arith;
        room = omega arith;
        kept = p.kept;
        left = λ j a. let s : i + 1 + j ≡ i + suc j = omega arith in rw s (p.left (suc j) (omega arith));
        mark = p.mark;
        was = p.was;
        live = p.live;
        inside = p.inside.1;
      }

-- the two ways of a turn
keep_yes : (ws : List ℕ) (i kept x : ℕ) → get_or ws (dirty_at i) 0 ≡ x → node_word ws x 2 ≡ 1
    → keep_dirty ws i kept ≡ record { is = next kept; ws = set (set_node_word ws x 2 0) (dirty_at kept) x }
unfolding keep_dirty dirty_node
keep_yes ws i kept x e h = rw e (sym (eq_yes (node_word ws x 2) 1 _ _ h refl))

keep_no : (ws : List ℕ) (i kept x : ℕ) → get_or ws (dirty_at i) 0 ≡ x → node_word ws x 2 ≢ 1 → keep_dirty ws i kept ≡ record { is = kept; ws = ws }
unfolding keep_dirty dirty_node
keep_no ws i kept x e h = rw e (sym (eq_no (node_word ws x 2) 1 _ _ h refl))

module _ (N : ℕ) (b₀ : ℕ → Bool) (ws₀ : List ℕ) (long : 5216 + 32 * N ≤ length ws₀) (few : N ≤ 4096) where
  pub swept : (R : List ℕ) (ws : List ℕ) (b : ℕ → Bool) (K : List ℕ) (i : ℕ) → Pass N b₀ ws₀ ws b K R i
      → Swept N b₀ ws₀ (sweep_dirty_from ws i (length K) (length R)) (K ++ sieve b R)
  unfolding sweep_dirty_from
  swept [] ws b K i p = rw (append-nil K) (closed N b₀ ws₀ long ws b K i p)
  swept (x ∷ R) ws b K i p = go (b x) refl
      (λ t. swept R (set (set_node_word ws x 2 0) (dirty_at (length K)) x) (off b x) (K ++ x ∷ []) (i + 1) (kept_turn N b₀ ws₀ long ws b K R x i p t))
      (swept R ws b K (i + 1) (left_turn N b₀ ws₀ long ws b K R x i p))
    where
      here : get_or ws (dirty_at i) 0 ≡ x
      here = let z : i + 0 ≡ i = omega arith in rw z at (p.left 0 (omega arith))

      go : (t : Bool) → b x ≡ t
          → (b x ≡ true → Swept N b₀ ws₀ (sweep_dirty_from (set (set_node_word ws x 2 0) (dirty_at (length K)) x) (i + 1) (length (K ++ x ∷ [])) (length R)) ((K ++ x ∷ []) ++ sieve (off b x) R))
          → Swept N b₀ ws₀ (sweep_dirty_from ws (i + 1) (length K) (length R)) (K ++ sieve b R)
          → Swept N b₀ ws₀ (sweep_dirty_from (keep_dirty ws i (length K)).ws (i + 1) (keep_dirty ws i (length K)).is (length R))
          (K ++ elim t as (λ _. List ℕ) [ true ↦ x ∷ sieve (off b x) R | false ↦ sieve b R ])
      go true e f g =
          let l : next (length K) ≡ length (K ++ x ∷ []) = let a = length-append K (x ∷ []) in let c = p.room in let d = p.behind in omega arith in
          rw (keep_yes ws i (length K) x here (p.mark x p.inside.0 ∙ ap bit e), l, ← append_assoc K (x ∷ []) (sieve (off b x) R)) (f e)
      go false e f g =
          let z : node_word ws x 2 ≡ 0 = p.mark x p.inside.0 ∙ ap bit e in
          rw (keep_no ws i (length K) x here (omega arith)) g
