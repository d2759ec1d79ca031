-- The binary search: where the places of the array ascend, it comes to the first whose item is not before the n bytes at `at`,
-- and so tells whether one of them has these bytes.
use Prim.Native.Nat.{ℕ, zero, suc, ◌+◌, ◌-◌, ◌/◌, ◌^◌, ◌<◌, ◌≤◌}
use Rattle.std.specs.Prelude.{◌≡◌, refl, true, false, ◌⊎◌, List, length, get_or}
use Rattle.std.proofs.Math.Logic.{inl, inr}
use native.Mathlib.Omega.{arith}
use Rattle.std.proofs.Math.Decide.{ℕ_discrete}
use Rattle.std.proofs.Math.Nat.{two-pow-succ}
use Rattle.words.specs.Choose.{lt_cases}
use Rattle.std.specs.Ordering.{is_eq}
use Rattle.std.specs.declared.cmp.Ordering.{Ordering}
use Rattle.std.specs.declared.cmp.Ordering.TheVariants.{Less, Equal, Greater}
use Rattle.repeats.specs.declared.Span.{Span}
use Rattle.repeats.specs.Repeats.{compare, on_less, narrow, narrowed, search, known}
use Rattle.repeats_laws.specs.Runs.{Alike, Before, Compared, compared, alike_sym, alike_not_before, before_by_first, before_by_second, before_asym}

-- the first m entries of l ascend by what stands there
pub record Ascends (s l : List ℕ) (m : ℕ) : Type 0 where
  pub ups : (i j : ℕ) → i < j → j < m → (n : ℕ) × Before s n (get_or l i 0) (get_or l j 0)

-- what is left of a search: all before it are less than the n bytes at `at`, and the first after it is not
pub record Left (s l : List ℕ) (m at n : ℕ) (w : Span) (room : ℕ) : Type 0 where
  pub order : w.lo ≤ w.hi
  pub within : w.hi ≤ m
  pub below : (j : ℕ) → j < w.lo → Before s n (get_or l j 0) at
  pub above : w.hi < m → Before s n (get_or l w.hi 0) at → ⊥
  pub small : w.hi - w.lo < room

-- one of the first m entries has the n bytes at `at`
pub record Found (s l : List ℕ) (m at n p : ℕ) : Type 0 where
  pub told : known s l m p at n ≡ true
  pub place : ℕ
  pub inside : place < m
  pub alike : Alike s n at (get_or l place 0)

-- none has, and p is where `at` belongs
pub record Missing (s l : List ℕ) (m at n p : ℕ) : Type 0 where
  pub told : known s l m p at n ≡ false
  pub inside : p ≤ m
  pub below : (j : ℕ) → j < p → Before s n (get_or l j 0) at
  pub above : (j : ℕ) → p ≤ j → j < m → Before s n at (get_or l j 0)

positive : (k : ℕ) → 0 < 2 ^ k
positive zero = omega arith
positive (suc k) = let h = positive k in rw two-pow-succ (omega arith)

module _ (s l : List ℕ) (m at n : ℕ) (up : Ascends s l m) (fits : at + n ≤ length s) (fit : (j : ℕ) → j < m → get_or l j 0 + n ≤ length s) where
  low_half : (w : Span) (room mid : ℕ) → Left s l m at n w (room + room) → w.lo < w.hi → mid ≡ w.lo + (w.hi - w.lo) / 2
      → Before s n (get_or l mid 0) at → Left s l m at n (record { lo = mid + 1; hi = w.hi }) room
  low_half w room mid g h e b =
      let o = g.order in let r = g.small in let v = g.within in
      record {
        order = omega arith;
        within = v;
        below = λ j i. elim (ℕ_discrete j mid) [
          | yes q ↦ rw q b
          | no q ↦ before_by_second (up.ups j mid (omega arith) (omega arith)).1 b
        ];
        above = g.above;
        small = omega arith;
      }

  high_half : (w : Span) (room mid : ℕ) → Left s l m at n w (room + room) → w.lo < w.hi → mid ≡ w.lo + (w.hi - w.lo) / 2
      → (Before s n (get_or l mid 0) at → ⊥) → Left s l m at n (record { lo = w.lo; hi = mid }) room
  high_half w room mid g h e b =
      let o = g.order in let r = g.small in let v = g.within in
      record { order = omega arith; within = omega arith; below = g.below; above = λ i. b; small = omega arith }

  halve : (w : Span) (room : ℕ) → 0 < room → Left s l m at n w (room + room) → Left s l m at n (narrow s l at n w) room
  unfolding narrow on_less
  halve w room z g = elim (lt_cases w.lo w.hi half w) [
    | inl e ↦
        let v = g.within in
        rw e.1 (go (compare s (get_or l mid 0) at n) e.0 (compared s n (get_or l mid 0) at (fit mid (omega arith)) fits))
    | inr e ↦
        let o = g.order in
        rw e.1 (record { order = o; within = g.within; below = g.below; above = g.above; small = omega arith })
  ]
    where
      mid : ℕ
      mid = w.lo + (w.hi - w.lo) / 2

      half : Span
      half = on_less (compare s (get_or l mid 0) at n) (record { lo = mid + 1; hi = w.hi }) (record { lo = w.lo; hi = mid })

      go : (o : Ordering) → w.lo < w.hi → Compared s n (get_or l mid 0) at o
          → Left s l m at n (on_less o (record { lo = mid + 1; hi = w.hi }) (record { lo = w.lo; hi = mid })) room
      go Less h b = low_half w room mid g h refl b
      go Equal h b = high_half w room mid g h refl (alike_not_before b)
      go Greater h b = high_half w room mid g h refl (λ c. before_asym b c)

  halves : (k : ℕ) (w : Span) → Left s l m at n w (2 ^ k) → Left s l m at n (narrowed s l at n w k) 1
  unfolding narrowed
  halves zero w g = g
  halves (suc k) w g = halves k (narrow s l at n w) (halve w (2 ^ k) (positive k) (rw two-pow-succ at g))

  -- 11 halvings are enough
  searched : m ≤ 1024 → Left s l m at n (narrowed s l at n (record { lo = 0; hi = m }) 11) 1
  searched h = halves 11 (record { lo = 0; hi = m }) (record {
    order = omega arith;
    within = omega arith;
    below = λ j i. absurd (omega arith);
    above = λ i b. absurd (omega arith);
    small = omega arith;
  })

  pub looked : m ≤ 1024 → Found s l m at n (search s l m at n) ⊎ Missing s l m at n (search s l m at n)
  unfolding search known
  looked h = elim (lt_cases p m (is_eq (compare s (get_or l p 0) at n)) false) [
    | inl e ↦ met (compare s (get_or l p 0) at n) e.0 e.1 (compared s n (get_or l p 0) at (fit p e.0) fits)
    | inr e ↦ inr (record { told = e.1; inside = inside; below = g.below; above = λ j i r. absurd (omega arith) })
  ]
    where
      w : Span
      w = narrowed s l at n (record { lo = 0; hi = m }) 11

      p : ℕ
      p = w.lo

      g : Left s l m at n w 1
      g = searched h

      met_end : p ≡ w.hi
      met_end = let o = g.order in let r = g.small in omega arith

      inside : p ≤ m
      inside = let v = g.within in omega (arith, met_end)

      met : (o : Ordering) → p < m → known s l m p at n ≡ is_eq o → Compared s n (get_or l p 0) at o → Found s l m at n p ⊎ Missing s l m at n p
      met Less i e b = absurd (g.above (omega (arith, met_end)) (rw (← met_end) b))
      met Equal i e b = inl (record { told = e; place = p; inside = i; alike = alike_sym b })
      met Greater i e b = inr (record {
        told = e;
        inside = inside;
        below = g.below;
        above = λ j r t. elim (ℕ_discrete j p) [ yes q ↦ rw q b | no q ↦ before_by_first b (up.ups p j (omega arith) t).1 ];
      })
