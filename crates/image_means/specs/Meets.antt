-- A walk over numbers that marks each live one when it is met first, and counts it: in the end the live ones are marked, and counted once.
use Rattle.std.specs.Prelude.{ℕ, ◌+◌, ◌<◌, ◌≡◌, refl, ◌≢◌, ◌⊎◌, Bool, true, false, ◌&&◌, length, get_or, set, eqb}
use Rattle.std.proofs.Common.{sym, ap, ◌∙◌, subst, inl, inr, true≢false, arith, get_or-set_same, get_or-set_other, eq-eqb, ne_eqb}
use Rattle.std.proofs.lemmas.Bool.{false≢true}
use mathlib.Core.List.Memᴰ
use mathlib.Core.List.{List, [], ◌∷◌, Memᴰ}
use Rattle.std.proofs.Math.Decide.{ℕ_discrete}
use Rattle.net_file.specs.Lists.{bit}
use Rattle.dirty_laws.specs.Tally.{tally, tally_same, tally_none, tally_at}

-- a test switched on at x
abbrev pub on : (ℕ → Bool) → ℕ → ℕ → Bool
on f x n = elim (eqb n x) [ true ↦ true | false ↦ f n ]

pub on_same : (f : ℕ → Bool) (x : ℕ) → on f x x ≡ true
on_same f x = ap (λ (t : Bool). elim t as (λ _. Bool) [ true ↦ true | false ↦ f x ]) (eq-eqb x x refl)

pub on_other : (f : ℕ → Bool) (x n : ℕ) → n ≢ x → on f x n ≡ f n
on_other f x n d = ap (λ (t : Bool). elim t as (λ _. Bool) [ true ↦ true | false ↦ f n ]) (ne_eqb n x d)

-- N numbers, number n marked at base + n; those marked before, the live ones met so far, and `rest` is still to come
pub record Meets (N base : ℕ) (live before : ℕ → Bool) (marks : List ℕ) (met : ℕ) (rest : List ℕ) : Type 0 where
  pub seen : ℕ → Bool
  pub marked : (n : ℕ) → n < N → get_or marks (base + n) 0 ≡ bit (seen n)
  pub only : (n : ℕ) → seen n ≡ true → (live n ≡ true) ⊎ (before n ≡ true)
  pub kept : (n : ℕ) → before n ≡ true → seen n ≡ true
  pub counted : met ≡ tally (λ n. seen n && live n) N
  pub all : (n : ℕ) → live n ≡ true → (seen n ≡ true) ⊎ Memᴰ n rest

module _ {N base : ℕ} {live before : ℕ → Bool} where
  -- none is met; what was marked before is not live
  pub meets_start : (marks items : List ℕ) → ((n : ℕ) → n < N → get_or marks (base + n) 0 ≡ bit (before n)) → ((n : ℕ) → before n ≡ true → live n ≡ false)
      → ((n : ℕ) → live n ≡ true → Memᴰ n items) → Meets N base live before marks 0 items
  meets_start marks items h d a = record {
    seen = before;
    marked = h;
    only = λ n e. inr e;
    kept = λ n e. e;
    counted = sym (tally_none (λ n. before n && live n) N (λ i l. go (before i) (live i) (d i)));
    all = λ n e. inr (a n e);
  }
    where
      go : (a b : Bool) → (a ≡ true → b ≡ false) → (a && b) ≡ false
      go true b h = h refl
      go false b h = refl

  -- marks elsewhere
  pub meets_keep : {marks : List ℕ} {met : ℕ} {rest : List ℕ} → Meets N base live before marks met rest → (w : List ℕ) → ((n : ℕ) → n < N → get_or w (base + n) 0 ≡ get_or marks (base + n) 0)
      → Meets N base live before w met rest
  meets_keep k w h = record { seen = k.seen; marked = λ n l. h n l ∙ k.marked n l; only = k.only; kept = k.kept; counted = k.counted; all = k.all }

  -- one that is not live, or was met before
  pub meets_old : {marks : List ℕ} {met n : ℕ} {rest : List ℕ} (k : Meets N base live before marks met (n ∷ rest)) → (live n ≡ true → k.seen n ≡ true)
      → Meets N base live before marks met rest
  meets_old {n = n} {rest} k h = record { seen = k.seen; marked = k.marked; only = k.only; kept = k.kept; counted = k.counted; all = λ i l. go i l (k.all i l) }
    where
      via : (i : ℕ) → live i ≡ true → (i ≡ n) ⊎ Memᴰ i rest → (k.seen i ≡ true) ⊎ Memᴰ i rest
      via i l (inl s) = inl (subst (λ (j : ℕ). k.seen j ≡ true) (sym s) (h (subst (λ (j : ℕ). live j ≡ true) s l)))
      via i l (inr q) = inr q

      go : (i : ℕ) → live i ≡ true → (k.seen i ≡ true) ⊎ Memᴰ i (n ∷ rest) → (k.seen i ≡ true) ⊎ Memᴰ i rest
      go i l (inl s) = inl s
      go i l (inr q) = via i l (Memᴰ.cases_cons q)

  -- one that is live and met for the first time
  pub meets_new : {marks : List ℕ} {met n : ℕ} {rest : List ℕ} (k : Meets N base live before marks met (n ∷ rest)) → n < N → base + n < length marks → live n ≡ true → k.seen n ≡ false
      → Meets N base live before (set marks (base + n) 1) (met + 1) rest
  meets_new {marks} {met} {n} {rest} k l b y z = record {
    seen = on k.seen n;
    marked = λ i h. mark i h (ℕ_discrete i n);
    only = λ i s. only i s (ℕ_discrete i n);
    kept = λ i s. kept i s (ℕ_discrete i n);
    counted =
        let a = tally_at (λ i. k.seen i && live i) (λ i. on k.seen n i && live i) n N l (λ i d. ap (λ (t : Bool). t && live i) (on_other k.seen n i d)) in
        let f : bit (k.seen n && live n) ≡ 0 = ap (λ (t : Bool). bit (t && live n)) z in
        let g : bit (on k.seen n n && live n) ≡ 1 = ap (λ (t : Bool). bit (t && live n)) (on_same k.seen n) ∙ ap bit y in
        let c = k.counted in
        omega arith;
    all = λ i h. all i (ℕ_discrete i n) (k.all i h);
  }
    where
      mark : (i : ℕ) → i < N → Dec (i ≡ n) → get_or (set marks (base + n) 1) (base + i) 0 ≡ bit (on k.seen n i)
      mark i h (yes s) = rw s (get_or-set_same marks (base + n) 1 0 b ∙ sym (ap bit (on_same k.seen n)))
      mark i h (no d) = get_or-set_other marks (base + n) (base + i) 1 0 (omega arith) ∙ k.marked i h ∙ sym (ap bit (on_other k.seen n i d))

      only : (i : ℕ) → on k.seen n i ≡ true → Dec (i ≡ n) → (live i ≡ true) ⊎ (before i ≡ true)
      only i s (yes e) = inl (subst (λ (j : ℕ). live j ≡ true) (sym e) y)
      only i s (no d) = k.only i (sym (on_other k.seen n i d) ∙ s)

      kept : (i : ℕ) → before i ≡ true → Dec (i ≡ n) → on k.seen n i ≡ true
      kept i s (yes e) = subst (λ (j : ℕ). on k.seen n j ≡ true) (sym e) (on_same k.seen n)
      kept i s (no d) = on_other k.seen n i d ∙ k.kept i s

      via : (i : ℕ) → i ≢ n → (i ≡ n) ⊎ Memᴰ i rest → (on k.seen n i ≡ true) ⊎ Memᴰ i rest
      via i d (inl s) = absurd (d s)
      via i d (inr q) = inr q

      all : (i : ℕ) → Dec (i ≡ n) → (k.seen i ≡ true) ⊎ Memᴰ i (n ∷ rest) → (on k.seen n i ≡ true) ⊎ Memᴰ i rest
      all i (yes e) s = inl (subst (λ (j : ℕ). on k.seen n j ≡ true) (sym e) (on_same k.seen n))
      all i (no d) (inl s) = inl (on_other k.seen n i d ∙ s)
      all i (no d) (inr q) = via i d (Memᴰ.cases_cons q)

  -- at the end every live one is met
  pub meets_seen : {marks : List ℕ} {met : ℕ} (k : Meets N base live before marks met []) → (n : ℕ) → live n ≡ true → k.seen n ≡ true
  meets_seen k n l = go (k.all n l)
    where
      go : (k.seen n ≡ true) ⊎ Memᴰ n [] → k.seen n ≡ true
      go (inl s) = s
      go (inr q) = absurd (Memᴰ.not-nil q)

  -- and as many were counted
  pub meets_count : {marks : List ℕ} {met : ℕ} → Meets N base live before marks met [] → met ≡ tally live N
  meets_count k = k.counted ∙ tally_same (λ n. k.seen n && live n) live N (λ i l. go (k.seen i) (live i) (meets_seen k i))
    where
      go : (a b : Bool) → (b ≡ true → a ≡ true) → (a && b) ≡ b
      go true b h = refl
      go false true h = absurd (false≢true (h refl))
      go false false h = refl
