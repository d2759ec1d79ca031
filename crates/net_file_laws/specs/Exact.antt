-- A parser and a writer that give each other back, and the law of each combinator of the format.
-- Document 01, "The net file". A reader and a writer are then proved against each other once, for the combinator.
use Prim.Native.Nat.{ℕ, zero, suc, ◌+◌, ◌^◌, ◌<◌, ◌≤◌}
use native.Mathlib.Omega.{arith}
use Rattle.std.specs.Prelude.{◌≡◌, Bool, true, false, T, eqb, ltb}
use Rattle.std.proofs.Math.Path.{refl}
use Rattle.std.proofs.Common.{sym, ap, subst, ltb→lt, lt→ltb}
use Rattle.std.proofs.Math.Option.{none, some}
use mathlib.Core.List.{List, [], ◌∷◌, ◌++◌, append_assoc, append-nil}
use Rattle.std.proofs.Math.ListN.{length}
use Rattle.std.proofs.Math.Dec.{eqb-suc-zero}
use Rattle.net_file.specs.Lists.{concat_map}
use Rattle.net_file.specs.Read.{Parser, then, ◌>>=◌, give, such, number, below, times_from, times, many}
use Rattle.net_file.specs.Write.{be, counted}
use Rattle.net_file_laws.specs.Bytes.{Bytes, bytes_rest, Answer, same_value, same_rest, never, number_written, number_read}

-- before any rest p reads what w writes of a value that fits; what p reads fits, and the bytes are those that w writes
pub record Exact {A : Type 0} (p : Parser A) (w : A → List ℕ) (Fits : A → Type 0) : Type 0 where
  pub reads : (a : A) → Fits a → (r : List ℕ) → p (w a ++ r) ≡ some (a, r)
  pub writes : (bs : List ℕ) → Bytes bs → (a : A) (r : List ℕ) → p bs ≡ some (a, r) → Fits a × (bs ≡ w a ++ r)

-- the same, of a parser that takes all that is left
pub record Whole {A : Type 0} (p : Parser A) (w : A → List ℕ) (Fits : A → Type 0) : Type 0 where
  pub reads : (a : A) → Fits a → p (w a) ≡ some (a, [])
  pub writes : (bs : List ℕ) → Bytes bs → (a : A) (r : List ℕ) → p bs ≡ some (a, r) → Fits a × (bs ≡ w a) × (r ≡ [])

-- another writer, the same on what fits, and another name for what fits
pub exact_as : {A : Type 0} {p : Parser A} {w v : A → List ℕ} {F G : A → Type 0}
    → ((a : A) → G a → v a ≡ w a) → ((a : A) → G a → F a) → ((a : A) → F a → G a) → Exact p w F → Exact p v G
exact_as {A} {p} {w} {v} {F} {G} same needs fits x = record {
  reads = λ a g r. rw (same a g) (x.reads a (needs a g) r);
  writes = λ bs h a r e. let y = x.writes bs h a r e in let g = fits a y.0 in (g, rw (same a g) y.1);
}

pub whole_as : {A : Type 0} {p : Parser A} {w v : A → List ℕ} {F G : A → Type 0}
    → ((a : A) → G a → v a ≡ w a) → ((a : A) → G a → F a) → ((a : A) → F a → G a) → Whole p w F → Whole p v G
whole_as {A} {p} {w} {v} {F} {G} same needs fits x = record {
  reads = λ a g. rw (same a g) (x.reads a (needs a g));
  writes = λ bs h a r e. let y = x.writes bs h a r e in let g = fits a y.0 in (g, rw (same a g) y.1, y.2);
}

-- ---- one part, and what follows it

-- what p read before K, and what K read of the rest
record Parted {A B : Type 0} (w : A → List ℕ) (F : A → Type 0) (K : A → Parser B) (bs : List ℕ) (b : B) (r : List ℕ) : Type 0 where
  value : A
  rest : List ℕ
  fits : F value
  split : bs ≡ w value ++ rest
  bytes : Bytes rest
  after : K value rest ≡ some (b, r)

parted : {A B : Type 0} {p : Parser A} {w : A → List ℕ} {F : A → Type 0} (K : A → Parser B) → Exact p w F
    → (bs : List ℕ) → Bytes bs → (b : B) (r : List ℕ) → then (p bs) K ≡ some (b, r) → Parted w F K bs b r
parted {A} {B} {p} {w} {F} K x bs h b r = go (p bs) refl
  where
    go : (o : Answer A) → p bs ≡ o → then o K ≡ some (b, r) → Parted w F K bs b r
    go none q e = never e
    go (some y) q e =
        let i = x.writes bs h y.0 y.1 q in
        record { value = y.0; rest = y.1; fits = i.0; split = i.1; bytes = bytes_rest (w y.0) y.1 (subst Bytes i.1 h); after = e }

module _ {A B : Type 0} {p : Parser A} {w : A → List ℕ} {F : A → Type 0} {K : A → Parser B} {v : A → B → List ℕ} {G : A → B → Type 0} where
  -- a value is read as a part of it, and then the rest of it by a reader that knows the part
  pub exact_step : Exact p w F → (part : B → A) → ((a : A) → F a → Exact (K a) (v a) (G a)) → ((a : A) → F a → (b : B) → G a b → part b ≡ a)
      → Exact (p >>= K) (λ b. w (part b) ++ v (part b) b) (λ b. F (part b) × G (part b) b)
  exact_step x part y tie = record {
    reads = λ b g r. rw (append_assoc, x.reads (part b) g.0) ((y (part b) g.0).reads b g.1 r);
    writes = λ bs h b r e.
        let i = parted K x bs h b r e in
        let j = (y i.value i.fits).writes i.rest i.bytes b r i.after in
        rw (tie i.value i.fits b j.0, append_assoc, ← j.1) ((i.fits, j.0), i.split);
  }

  pub whole_step : Exact p w F → (part : B → A) → ((a : A) → F a → Whole (K a) (v a) (G a)) → ((a : A) → F a → (b : B) → G a b → part b ≡ a)
      → Whole (p >>= K) (λ b. w (part b) ++ v (part b) b) (λ b. F (part b) × G (part b) b)
  whole_step x part y tie = record {
    reads = λ b g. rw (x.reads (part b) g.0) ((y (part b) g.0).reads b g.1);
    writes = λ bs h b r e.
        let i = parted K x bs h b r e in
        let j = (y i.value i.fits).writes i.rest i.bytes b r i.after in
        rw (tie i.value i.fits b j.0, ← j.1) ((i.fits, j.0), i.split, j.2);
  }

-- nothing is read
pub exact_give : {B : Type 0} (b : B) → Exact (give b) (λ x. []) (λ x. x ≡ b)
exact_give b = record {
  reads = λ x e r. ap (λ y. some (y, r)) (sym e);
  writes = λ bs h x r e. (sym (same_value e), same_rest e);
}

-- nor by a test
pub exact_such : {B : Type 0} (t : Bool) (b : B) → Exact (such t b) (λ x. []) (λ x. (x ≡ b) × T t)
exact_such true b = record {
  reads = λ x g r. ap (λ y. some (y, r)) (sym g.0);
  writes = λ bs h x r e. ((sym (same_value e), tt), same_rest e);
}
exact_such false b = record {
  reads = λ x g r. absurd g.1;
  writes = λ bs h x r e. never e;
}

-- nothing is left
pub whole_end : {B : Type 0} (b : B) → Whole (λ bs. such (eqb (length bs) 0) b bs) (λ x. []) (λ x. x ≡ b)
whole_end {B} b = record { reads = λ x e. ap (λ y. some (y, [])) (sym e); writes = read }
  where
    read : (bs : List ℕ) → Bytes bs → (x : B) (r : List ℕ) → such (eqb (length bs) 0) b bs ≡ some (x, r) → (x ≡ b) × (bs ≡ []) × (r ≡ [])
    read [] h x r e = (sym (same_value e), refl, sym (same_rest e))
    read (c ∷ bs) h x r e = never (rw eqb-suc-zero at e)

-- ---- numbers

pub exact_number : (k : ℕ) → Exact (number k) (be k) (λ x. x < 256 ^ k)
exact_number k = record { reads = number_written k; writes = number_read k }

-- of all the numbers of k bytes those below n
pub exact_below : (k n : ℕ) → n ≤ 256 ^ k → Exact (below k n) (be k) (λ x. x < n)
unfolding below
exact_below k n h =
    exact_as (λ x h. sym (append-nil (be k x))) (λ x l. (omega arith, (refl, lt→ltb x n l))) (λ x g. ltb→lt x n g.1.1)
    (exact_step (exact_number k) (λ x. x) (λ x l. exact_such (ltb x n) x) (λ x l y g. g.0))

-- ---- lists

-- each element fits; or fits at its place, from place i on
abbrev pub Each : {A : Type 0} → (A → Type 0) → List A → Type 0
Each F [] = Unit {0}
Each F (x ∷ xs) = F x × Each F xs

abbrev pub EachFrom : {A : Type 0} → (ℕ → A → Type 0) → ℕ → List A → Type 0
EachFrom F i [] = Unit {0}
EachFrom F i (x ∷ xs) = F i x × EachFrom F (suc i) xs

each_from : {A : Type 0} (F : A → Type 0) (i : ℕ) (xs : List A) → Each F xs → EachFrom (λ j. F) i xs
each_from F i [] h = tt
each_from F i (x ∷ xs) h = (h.0, each_from F (suc i) xs h.1)

from_each : {A : Type 0} (F : A → Type 0) (i : ℕ) (xs : List A) → EachFrom (λ j. F) i xs → Each F xs
from_each F i [] h = tt
from_each F i (x ∷ xs) h = (h.0, from_each F (suc i) xs h.1)

-- elements whose readers are exact below place m
module _ {A : Type 0} {p : ℕ → Parser A} {w : A → List ℕ} {F : ℕ → A → Type 0} (m : ℕ) (x : (i : ℕ) → i < m → Exact (p i) w (F i)) where
  exact_none : (i : ℕ) → Exact (times_from p i 0) (concat_map w) (λ xs. (length xs ≡ 0) × EachFrom F i xs)
  unfolding times_from
  exact_none i = record { reads = written; writes = λ bs h xs r e. rw (← same_value e) ((refl, tt), same_rest e) }
    where
      written : (xs : List A) → (length xs ≡ 0) × EachFrom F i xs → (r : List ℕ) → give [] (concat_map w xs ++ r) ≡ some (xs, r)
      written [] h r = refl
      written (a ∷ xs) h r = absurd (omega arith)

  exact_cons : (i n : ℕ) → i < m → Exact (times_from p (suc i) n) (concat_map w) (λ xs. (length xs ≡ n) × EachFrom F (suc i) xs)
      → Exact (times_from p i (suc n)) (concat_map w) (λ xs. (length xs ≡ suc n) × EachFrom F i xs)
  unfolding times_from
  exact_cons i n l y = record { reads = written; writes = read }
    where
      written : (xs : List A) → (length xs ≡ suc n) × EachFrom F i xs → (r : List ℕ) → times_from p i (suc n) (concat_map w xs ++ r) ≡ some (xs, r)
      written [] h r = absurd (omega arith)
      written (a ∷ xs) h r = rw (append_assoc, (x i l).reads a h.1.0, y.reads xs (omega arith, h.1.1)) refl

      read : (bs : List ℕ) → Bytes bs → (xs : List A) (r : List ℕ) → times_from p i (suc n) bs ≡ some (xs, r)
          → ((length xs ≡ suc n) × EachFrom F i xs) × (bs ≡ concat_map w xs ++ r)
      read bs h xs r e =
          let a = parted _ (x i l) bs h xs r e in
          let b = parted _ y a.rest a.bytes xs r a.after in
          let ys = b.value in
          let split : bs ≡ w a.value ++ concat_map w ys ++ r = rw append_assoc (cc (a.split, b.split, same_rest b.after)) in
          subst (λ (zs : List A). ((length zs ≡ suc n) × EachFrom F i zs) × (bs ≡ concat_map w zs ++ r)) (same_value b.after)
          ((ap suc b.fits.0, (a.fits, b.fits.1)), split)

  pub exact_times_from : (i n : ℕ) → i + n ≤ m → Exact (times_from p i n) (concat_map w) (λ xs. (length xs ≡ n) × EachFrom F i xs)
  exact_times_from i zero l = exact_none i
  exact_times_from i (suc n) l = exact_cons i n (omega arith) (exact_times_from (suc i) n (omega arith))

module _ {A : Type 0} {p : Parser A} {w : A → List ℕ} {F : A → Type 0} (x : Exact p w F) where
  pub exact_times : (n : ℕ) → Exact (times n p) (concat_map w) (λ xs. (length xs ≡ n) × Each F xs)
  unfolding times
  exact_times n =
      exact_as (λ xs h. refl) (λ xs h. (h.0, each_from F 0 xs h.1)) (λ xs h. (h.0, from_each F 0 xs h.1))
      (exact_times_from n (λ i l. x) 0 n (omega arith))

  -- a count of k bytes, at most m, then as many
  pub exact_many : (k m : ℕ) → m < 256 ^ k → Exact (many k m p) (counted k w) (λ xs. (length xs ≤ m) × Each F xs)
  unfolding many counted
  exact_many k m l =
      exact_as (λ xs h. refl) (λ xs h. (omega arith, (refl, h.1))) (λ xs h. (omega arith, h.1.1))
      (exact_step (exact_below k (suc m) l) length (λ n h. exact_times n) (λ n h xs g. g.0))
