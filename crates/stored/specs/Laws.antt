-- A parser that succeeds at a place of s has read what stands there: one law for each way to put parsers together.
use Prim.Native.Nat.{ℕ, zero, suc, ◌+◌, ◌*◌, ◌-◌, ◌<◌, ◌≤◌}
use Rattle.std.specs.Prelude.{◌≡◌, Bool, true, false, List, [], ◌∷◌, length, get_or, take, drop, ltb}
use Rattle.std.proofs.Math.Path.{refl, ap}
use Rattle.std.proofs.Common.{sym, ◌∙◌, add-one, drop_of_length-le, drop-cons, lt-ltb, le-ltb}
use Rattle.std.proofs.Math.Option.{Option, none, some}
use native.Mathlib.Omega.{arith}
use Rattle.std.proofs.Math.Decide.{dec_lt}
use Rattle.std.proofs.Math.Nat.{mul-suc}
use Rattle.net_file.specs.Read.{Parser, then, ◌>>=◌, give, such, number_from, number, below, times_from, times, many}
use Rattle.net_file.specs.Read
use Rattle.fields.specs.Fields.{byte, be16, be32, be64}
use Rattle.stored.specs.Stored.{table_at, table_end, numbers_at, list_at, list_end}

-- two answers that are the same have the same value, and leave the same
pub some_value : {A : Type 0} {x y : A} {q r : List ℕ} → ◌≡◌ {A = Option (A × List ℕ)} (some (x, q)) (some (y, r)) → (x ≡ y) × (q ≡ r)
some_value {A} {x} {y} {q} {r} e = (ap (λ o. first o) e, ap (λ o. second o) e)
  where
    first : Option (A × List ℕ) → A
    first none = x
    first (some p) = p.0

    second : Option (A × List ℕ) → List ℕ
    second none = q
    second (some p) = p.1

-- whatever p reads at the place `at` of s is v, and ends at e
pub record Stands {A : Type 0} (s : List ℕ) (p : Parser A) (at : ℕ) (v : A) (e : ℕ) : Type 0 where
  pub by : (x : A) (r : List ℕ) → at ≤ length s → p (drop at s) ≡ some (x, r) → (x ≡ v) × (r ≡ drop e s) × (at ≤ e) × (e ≤ length s)

-- ---- one part after another

pub record Bound {A B : Type 0} (p : Parser A) (f : A → Parser B) (bs : List ℕ) (b : B) (r : List ℕ) : Type 0 where
  pub value : A
  pub rest : List ℕ
  pub first : p bs ≡ some (value, rest)
  pub next : f value rest ≡ some (b, r)

-- a run of two parsers, taken apart
pub bound : {A B : Type 0} (p : Parser A) (f : A → Parser B) (bs : List ℕ) (b : B) (r : List ℕ) → (p >>= f) bs ≡ some (b, r) → Bound p f bs b r
bound {A} {B} p f bs b r h = go (p bs) refl h
  where
    go : (o : Option (A × List ℕ)) → p bs ≡ o → then o f ≡ some (b, r) → Bound p f bs b r
    go none e k = let z : ◌≡◌ {A = ℕ} 0 1 = cc in absurd (omega arith)
    go (some q) e k = record { value = q.0; rest = q.1; first = e; next = k }

module _ {s : List ℕ} where
  pub stands_bind : {A B : Type 0} {p : Parser A} (f : A → Parser B) {at : ℕ} {a : A} {m : ℕ} {b : B} {e : ℕ}
      → Stands s p at a m → Stands s (f a) m b e → Stands s (p >>= f) at b e
  stands_bind {p = p} f {at = at} h k = record {
    by = λ x r i g.
        let w = bound p f (drop at s) x r g in
        let y = h.by w.value w.rest i w.first in
        let z = k.by x r y.3 (rw (y.0, y.1) at w.next) in
        (z.0, z.1, omega arith, z.3);
  }

  pub stands_give : {A : Type 0} {a : A} {at : ℕ} → Stands s (give a) at a at
  stands_give = record { by = λ x r i g. let y = some_value g in (sym y.0, sym y.1, omega arith, i) }

  pub stands_such : {A : Type 0} (t : Bool) {a : A} {at : ℕ} → Stands s (such t a) at a at
  stands_such true = record { by = λ x r i g. let y = some_value g in (sym y.0, sym y.1, omega arith, i) }
  stands_such false = record { by = λ x r i g. let z : ◌≡◌ {A = ℕ} 0 1 = cc in absurd (omega arith) }

  -- a parser that always refuses
  pub stands_never : {A : Type 0} {p : Parser A} {at e : ℕ} {v : A} → ((bs : List ℕ) → p bs ≡ none) → Stands s p at v e
  stands_never h = record { by = λ x r i g. let z : ◌≡◌ {A = ℕ} 0 1 = cc (h (drop _ s)) in absurd (omega arith) }

  -- the same fact about an equal value and an equal end
  pub stands_as : {A : Type 0} {p : Parser A} {at : ℕ} {v w : A} {e f : ℕ} → Stands s p at v e → v ≡ w → e ≡ f → Stands s p at w f
  stands_as h ev ee = rw (ev, ee) at h

-- a number that is to be below n
module _ (k n : ℕ) (bs : List ℕ) where
  pub below_in : (x : ℕ) (r : List ℕ) → number k bs ≡ some (x, r) → x < n → below k n bs ≡ some (x, r)
  unfolding below
  below_in x r e h = ap (λ o. then o (λ y. such (ltb y n) y)) e ∙ ap (λ t. such t x r) (lt-ltb x n h)

  pub below_high : (x : ℕ) (r : List ℕ) → number k bs ≡ some (x, r) → n ≤ x → below k n bs ≡ none
  unfolding below
  below_high x r e h = ap (λ o. then o (λ y. such (ltb y n) y)) e ∙ ap (λ t. such t x r) (le-ltb x n h)

  pub below_out : number k bs ≡ none → below k n bs ≡ none
  unfolding below
  below_out e = ap (λ o. then o (λ y. such (ltb y n) y)) e

module _ (s : List ℕ) where
  -- ---- numbers

  -- the number that k bytes from `at` on make after those that made n
  abbrev value_from : ℕ → ℕ → ℕ → ℕ
  value_from zero n at = n
  value_from (suc k) n at = value_from k (n * 256 + byte s at) (at + 1)

  pub byte_in : (at : ℕ) → at < length s → Read.byte (drop at s) ≡ some (byte s at, drop (at + 1) s)
  unfolding Read.byte
  byte_in at h = rw (drop-cons s at 0 h, add-one)

  pub byte_out : (at : ℕ) → length s ≤ at → Read.byte (drop at s) ≡ none
  unfolding Read.byte
  byte_out at h = rw (drop_of_length-le s h)

  pub number_in : (k n at : ℕ) → at + k ≤ length s → number_from k n (drop at s) ≡ some (value_from k n at, drop (at + k) s)
  unfolding number_from
  number_in zero n at h = let e : at + 0 ≡ at = omega arith in rw e
  number_in (suc k) n at h =
      let e : at + suc k ≡ at + 1 + k = omega arith in
      rw (byte_in at (omega arith), e) (number_in k (n * 256 + byte s at) (at + 1) (omega arith))

  pub number_out : (k n at : ℕ) → at ≤ length s → length s < at + k → number_from k n (drop at s) ≡ none
  unfolding number_from
  number_out zero n at i h = absurd (omega arith)
  number_out (suc k) n at i h = elim (dec_lt at (length s)) [
    | yes l ↦ rw (byte_in at l) (number_out k (n * 256 + byte s at) (at + 1) (omega arith) (omega arith))
    | no l ↦ rw (byte_out at (omega arith))
  ]

  pub value_1 : (at : ℕ) → value_from 1 0 at ≡ byte s at
  value_1 at = omega arith

  pub value_2 : (at : ℕ) → value_from 2 0 at ≡ be16 s at
  value_2 at = omega arith

  pub value_4 : (at : ℕ) → value_from 4 0 at ≡ be32 s at
  value_4 at = let e : at + 1 + 1 ≡ at + 2 = omega arith in let f : at + 2 + 1 ≡ at + 3 = omega arith in rw (e, f) (omega arith)

  pub value_8 : (at : ℕ) → value_from 8 0 at ≡ be64 s at
  value_8 at =
      let e₂ : at + 1 + 1 ≡ at + 2 = omega arith in
      let e₃ : at + 2 + 1 ≡ at + 3 = omega arith in
      let e₄ : at + 3 + 1 ≡ at + 4 = omega arith in
      let e₅ : at + 4 + 1 + 1 ≡ at + 4 + 2 = omega arith in
      let e₆ : at + 4 + 2 + 1 ≡ at + 4 + 3 = omega arith in
      rw (e₂, e₃, e₄, e₅, e₆) (omega arith)

  pub in_1 : (at : ℕ) → at + 1 ≤ length s → number 1 (drop at s) ≡ some (byte s at, drop (at + 1) s)
  unfolding number
  in_1 at h = number_in 1 0 at h ∙ rw (value_1 at)

  pub in_2 : (at : ℕ) → at + 2 ≤ length s → number 2 (drop at s) ≡ some (be16 s at, drop (at + 2) s)
  unfolding number
  in_2 at h = number_in 2 0 at h ∙ rw (value_2 at)

  pub in_4 : (at : ℕ) → at + 4 ≤ length s → number 4 (drop at s) ≡ some (be32 s at, drop (at + 4) s)
  unfolding number
  in_4 at h = number_in 4 0 at h ∙ rw (value_4 at)

  pub in_8 : (at : ℕ) → at + 8 ≤ length s → number 8 (drop at s) ≡ some (be64 s at, drop (at + 8) s)
  unfolding number
  in_8 at h = number_in 8 0 at h ∙ rw (value_8 at)

  pub run_out : (k at : ℕ) → at ≤ length s → length s < at + k → number k (drop at s) ≡ none
  unfolding number
  run_out k at i h = number_out k 0 at i h

  stands_number : (k n at : ℕ) → Stands s (number_from k n) at (value_from k n at) (at + k)
  stands_number k n at = record {
    by = λ x r i g. elim (dec_lt (length s) (at + k)) [
      | yes l ↦ let z : ◌≡◌ {A = ℕ} 0 1 = cc (number_out k n at i l) in absurd (omega arith)
      | no l ↦
          let l' : at + k ≤ length s = omega arith in
          let y = some_value (sym g ∙ number_in k n at l') in
          (y.0, y.1, omega arith, l')
    ];
  }

  pub stands_byte : (at : ℕ) → Stands s Read.byte at (byte s at) (at + 1)
  stands_byte at = record {
    by = λ x r i g. elim (dec_lt at (length s)) [
      | yes l ↦ let y = some_value (sym g ∙ byte_in at l) in (y.0, y.1, omega arith, omega arith)
      | no l ↦ let z : ◌≡◌ {A = ℕ} 0 1 = cc (byte_out at (omega arith)) in absurd (omega arith)
    ];
  }

  pub stands_1 : (at : ℕ) → Stands s (number 1) at (byte s at) (at + 1)
  unfolding number
  stands_1 at = stands_as (stands_number 1 0 at) (value_1 at) refl

  pub stands_2 : (at : ℕ) → Stands s (number 2) at (be16 s at) (at + 2)
  unfolding number
  stands_2 at = stands_as (stands_number 2 0 at) (value_2 at) refl

  pub stands_4 : (at : ℕ) → Stands s (number 4) at (be32 s at) (at + 4)
  unfolding number
  stands_4 at = stands_as (stands_number 4 0 at) (value_4 at) refl

  pub stands_8 : (at : ℕ) → Stands s (number 8) at (be64 s at) (at + 8)
  unfolding number
  stands_8 at = stands_as (stands_number 8 0 at) (value_8 at) refl

  -- ---- lists

  pub stands_times_from : {A : Type 0} (p : ℕ → Parser A) (one : ℕ → A) (end : ℕ → ℕ) → ((i at : ℕ) → Stands s (p i) at (one at) (end at))
      → (i n at : ℕ) → Stands s (times_from p i n) at (table_at one end at n) (table_end end at n)
  unfolding times_from table_at table_end
  stands_times_from p one end h i zero at = stands_give
  stands_times_from p one end h i (suc n) at =
      stands_bind _ (h i at) (stands_bind _ (stands_times_from p one end h (suc i) n (end at)) stands_give)

  pub stands_times : {A : Type 0} (p : Parser A) (one : ℕ → A) (end : ℕ → ℕ) → ((at : ℕ) → Stands s p at (one at) (end at))
      → (n at : ℕ) → Stands s (times n p) at (table_at one end at n) (table_end end at n)
  unfolding times
  stands_times p one end h n at = stands_times_from (λ i. p) one end (λ i. h) 0 n at

  pub table_length : {A : Type 0} (one : ℕ → A) (end : ℕ → ℕ) (at n : ℕ) → length (table_at one end at n) ≡ n
  unfolding table_at
  table_length one end at zero = refl
  table_length one end at (suc n) = ap suc (table_length one end (end at) n)

  -- a table whose elements are all k long
  pub table_steps : (k at n : ℕ) → table_end (λ a. a + k) at n ≡ at + k * n
  unfolding table_end
  table_steps k at zero = omega arith
  table_steps k at (suc n) = table_steps k (at + k) n ∙ omega (arith, mul-suc k n)

  pub stands_below : (k n at x e : ℕ) → Stands s (number k) at x e → Stands s (below k n) at x e
  unfolding below
  stands_below k n at x e h = stands_bind _ h (stands_such (ltb x n))

  -- a count of k bytes, then as many
  pub stands_many : {A : Type 0} (k m : ℕ) (p : Parser A) (one : ℕ → A) (end : ℕ → ℕ) (at x e : ℕ) → Stands s (number k) at x e
      → ((a : ℕ) → Stands s p a (one a) (end a)) → Stands s (many k m p) at (table_at one end e x) (table_end end e x)
  unfolding many
  stands_many k m p one end at x e h g = stands_bind _ (stands_below k (suc m) at x e h) (stands_times p one end g x e)

  pub stands_numbers : (m b at : ℕ) → Stands s (many 1 m (below 2 b)) at (list_at s at) (list_end s at)
  unfolding list_at list_end numbers_at
  stands_numbers m b at = stands_as
      (stands_many 1 m (below 2 b) (be16 s) (λ a. a + 2) at (byte s at) (at + 1) (stands_1 at) (λ a. stands_below 2 b a _ _ (stands_2 a)))
      refl (table_steps 2 (at + 1) (byte s at))
