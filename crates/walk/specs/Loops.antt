-- The walk over n parts, one after another: one turn, a turn that stops it, the end.
use Prim.Native.Nat.{ℕ, zero, suc, ◌+◌, ◌*◌, ◌-◌, ◌<◌, ◌≤◌}
use Rattle.std.specs.Prelude.{◌≡◌, length, drop, Option, Some, None}
use Rattle.std.proofs.Math.Path.{refl, sym, ap}
use Rattle.std.proofs.Common.{◌∙◌, add-one, sub-one, not-suc-le-zero}
use Rattle.std.proofs.Math.Option.{Option as Parsed, none, some}
use mathlib.Core.List.{List, [], ◌∷◌}
use native.Mathlib.Omega.{arith}
use Rattle.net_file.specs.Read.{Parser, then, ◌>>=◌, give, times_from, times}
use Rattle.stored.specs.Laws.{Stands}
use Rattle.walk.specs.After.{after, place, Same, same_map, same_bind, after_bind, after_stop, after_go, after_bad, after_map, after_give}

-- ---- parts that may depend on their place in the list

module _ {A : Type 0} (p : ℕ → Parser A) (s : List ℕ) where
  pub from_more : (i at at' k : ℕ) (v : A) (e : ℕ) (r x : Option ℕ) → Stands s (p i) at v e → after at (times_from p i k) s ≡ x → 0 < k
      → r ≡ after at (p i) s → r ≡ Some at' → after at' (times_from p (i + 1) (k - 1)) s ≡ x
  unfolding times_from
  from_more i at at' zero v e r x st g h er ea = absurd (not-suc-le-zero h)
  from_more i at at' (suc k) v e r x st g h er ea =
      rw (sub-one, add-one) (sym (after_map (times_from p (suc i) k) (λ xs. v ∷ xs) s at')
      ∙ sym (after_go (p i) (λ y. times_from p (suc i) k >>= λ ys. give (y ∷ ys)) s at v e at' r st er ea) ∙ g)

  pub from_bad : (i at k : ℕ) (r x : Option ℕ) → after at (times_from p i k) s ≡ x → 0 < k → r ≡ after at (p i) s → r ≡ None → None ≡ x
  unfolding times_from
  from_bad i at zero r x g h er eb = absurd (not-suc-le-zero h)
  from_bad i at (suc k) r x g h er eb = after_bad (p i) (λ y. times_from p (suc i) k >>= λ ys. give (y ∷ ys)) s at r er eb ∙ g

  pub from_done : (i at k : ℕ) (x : Option ℕ) → after at (times_from p i k) s ≡ x → k ≤ 0 → at ≤ length s → Some at ≡ x
  unfolding times_from
  from_done i at zero x g h l = after_give {A = List A} [] s at l ∙ g
  from_done i at (suc k) x g h l = absurd (not-suc-le-zero h)

-- ---- parts that are all alike

module _ {A : Type 0} (p : Parser A) where
  same_from : (i j n : ℕ) → times_from (λ _. p) i n ≡ times_from (λ _. p) j n
  unfolding times_from
  same_from i j zero = refl
  same_from i j (suc n) = ap (λ (q : Parser (List A)). p >>= λ x. q >>= λ xs. give (x ∷ xs)) (same_from (suc i) (suc j) n)

  pub times_zero : times 0 p ≡ give []
  unfolding times times_from
  times_zero = refl

  pub times_suc : (n : ℕ) → times (suc n) p ≡ (p >>= λ x. times n p >>= λ xs. give (x ∷ xs))
  unfolding times times_from
  times_suc n = ap (λ (q : Parser (List A)). p >>= λ x. q >>= λ xs. give (x ∷ xs)) (same_from 1 0 n)

  module _ (s : List ℕ) where
    -- one turn, by what the part at its place is read as
    pub times_next : (at m k : ℕ) (v : A) (x : Option ℕ) → after at (times k p) s ≡ x → 0 < k
        → at ≤ length s → p (drop at s) ≡ some (v, drop m s) → m ≤ length s → after m (times (k - 1) p) s ≡ x
    times_next at m zero v x g h i r l = absurd (not-suc-le-zero h)
    times_next at m (suc k) v x g h i r l =
        rw sub-one (sym (after_map (times k p) (λ xs. v ∷ xs) s m)
        ∙ sym (after_bind p (λ y. times k p >>= λ ys. give (y ∷ ys)) s at v m i r l) ∙ rw times_suc at g)

    pub times_none : (at k : ℕ) (x : Option ℕ) → after at (times k p) s ≡ x → 0 < k → at ≤ length s → p (drop at s) ≡ none → None ≡ x
    times_none at zero x g h i r = absurd (not-suc-le-zero h)
    times_none at (suc k) x g h i r = after_stop p (λ y. times k p >>= λ ys. give (y ∷ ys)) s at i r ∙ rw times_suc at g

    -- one turn, by what a walk over the part answered
    pub times_more : (at at' k : ℕ) (v : A) (e : ℕ) (r x : Option ℕ) → Stands s p at v e → after at (times k p) s ≡ x → 0 < k
        → r ≡ after at p s → r ≡ Some at' → after at' (times (k - 1) p) s ≡ x
    times_more at at' zero v e r x st g h er ea = absurd (not-suc-le-zero h)
    times_more at at' (suc k) v e r x st g h er ea =
        rw sub-one (sym (after_map (times k p) (λ xs. v ∷ xs) s at')
        ∙ sym (after_go p (λ y. times k p >>= λ ys. give (y ∷ ys)) s at v e at' r st er ea) ∙ rw times_suc at g)

    -- the same in a loop that counts up to n
    pub times_turn : (at at' n i : ℕ) (v : A) (e : ℕ) (r x : Option ℕ) → Stands s p at v e → after at (times (n - i) p) s ≡ x → i < n
        → r ≡ after at p s → r ≡ Some at' → after at' (times (n - (i + 1)) p) s ≡ x
    times_turn at at' n i v e r x st g h er ea =
        let k : n - (i + 1) ≡ n - i - 1 = omega arith in
        rw k (times_more at at' (n - i) v e r x st g (omega arith) er ea)

    pub times_bad : (at k : ℕ) (r x : Option ℕ) → after at (times k p) s ≡ x → 0 < k → r ≡ after at p s → r ≡ None → None ≡ x
    times_bad at zero r x g h er eb = absurd (not-suc-le-zero h)
    times_bad at (suc k) r x g h er eb = after_bad p (λ y. times k p >>= λ ys. give (y ∷ ys)) s at r er eb ∙ rw times_suc at g

    pub times_done : (at k : ℕ) (x : Option ℕ) → after at (times k p) s ≡ x → k ≤ 0 → at ≤ length s → Some at ≡ x
    times_done at zero x g h l = after_give {A = List A} [] s at l ∙ rw times_zero at g
    times_done at (suc k) x g h l = absurd (not-suc-le-zero h)

-- ---- a few parts, written out

module _ {A : Type 0} (p : Parser A) (s : List ℕ) where
  one_same : Same s (times 1 p) p
  unfolding times times_from
  one_same bs = ap (λ (q : Parser (List A)). place s (q bs)) (times_suc p 0) ∙ same_map s p (λ x. x ∷ []) bs

  pub times_1 : {B : Type 0} (f : A → B) → Same s (p >>= λ x. give (f x)) (times 1 p)
  times_1 f bs = same_map s p f bs ∙ sym (one_same bs)

  -- one more part before n
  more_same : {B : Type 0} (n : ℕ) (f : A → Parser B) → ((x : A) → Same s (f x) (times n p)) → Same s (p >>= f) (times (suc n) p)
  more_same n f h bs =
      same_bind s p f (λ x. times n p >>= λ xs. give (x ∷ xs)) (λ x cs. h x cs ∙ sym (same_map s (times n p) (λ xs. x ∷ xs) cs)) bs
      ∙ ap (λ (r : Parser (List A)). place s (r bs)) (sym (times_suc p n))

  pub times_2 : {B : Type 0} (f : A → A → B) → Same s (p >>= λ x. p >>= λ y. give (f x y)) (times 2 p)
  times_2 f = more_same 1 (λ x. p >>= λ y. give (f x y)) (λ x. times_1 (f x))

  pub times_3 : {B : Type 0} (f : A → A → A → B) → Same s (p >>= λ x. p >>= λ y. p >>= λ z. give (f x y z)) (times 3 p)
  times_3 f = more_same 2 (λ x. p >>= λ y. p >>= λ z. give (f x y z)) (λ x. times_2 (f x))

  -- ---- pairs of parts

  abbrev pub pair : Parser (A × A)
  pair = p >>= λ a. p >>= λ b. give (a, b)

  paired : {B : Type 0} (f : A × A → Parser B) (bs : List ℕ) → (pair >>= f) bs ≡ (p >>= λ a. p >>= λ b. f (a, b)) bs
  paired {B} f bs = first (p bs)
    where
      second : (a : A) (o : Parsed (A × List ℕ)) → then (then o (λ b. give (a, b))) f ≡ then o (λ b. f (a, b))
      second a none = refl
      second a (some q) = refl

      first : (o : Parsed (A × List ℕ)) → then (then o (λ a. p >>= λ b. give (a, b))) f ≡ then o (λ a. p >>= λ b. f (a, b))
      first none = refl
      first (some q) = second q.0 (p q.1)

  -- n pairs end where 2 n parts end
  pub pairs_same : (n : ℕ) → Same s (times n pair) (times (2 * n) p)
  unfolding times times_from place
  pairs_same zero bs = refl
  pairs_same (suc n) bs =
      let e : 2 * suc n ≡ suc (suc (2 * n)) = omega arith in
      ap (λ (q : Parser (List (A × A))). place s (q bs)) (times_suc pair n)
      ∙ ap (place s) (paired (λ x. times n pair >>= λ xs. give (x ∷ xs)) bs)
      ∙ more_same (suc (2 * n)) (λ a. p >>= λ b. times n pair >>= λ xs. give ((a, b) ∷ xs))
      (λ a. more_same (2 * n) (λ b. times n pair >>= λ xs. give ((a, b) ∷ xs)) (λ b cs. same_map s (times n pair) (λ xs. (a, b) ∷ xs) cs ∙ pairs_same n cs)) bs
      ∙ ap (λ m. place s (times m p bs)) (sym e)
