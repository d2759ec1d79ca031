-- `differ` tells whether the items of a table are pairwise different.
use Prim.Native.Nat.{ℕ, suc, ◌<◌, ◌≤◌}
use Rattle.std.specs.Prelude.{◌≡◌, Bool, true, false, ◌||◌, ◌⊎◌, List, get_or}
use Rattle.std.proofs.Math.Path.{refl}
use Rattle.std.proofs.Common.{arith}
use Rattle.std.proofs.Math.Bool.{or-true}
use Rattle.std.proofs.Math.Logic.{inl, inr}
use Rattle.std.proofs.Math.Decide.{dec_lt}
use Rattle.std.proofs.Math.ListN.{length}
use Rattle.net_file.specs.Lists.{eqs}
use Rattle.list_laws.specs.Tests.{either}
use Rattle.list_laws.specs.Lists.{eqs_true, eqs_eq}
use Rattle.repeats.specs.declared.Item.{Item}
use Rattle.repeats.specs.Repeats.{size_of, insert}
use Rattle.repeats_laws.specs.Arrays.{insert_low, insert_at, insert_high}
use Rattle.repeats_laws.specs.Find.{Ascends, Missing}
use Rattle.repeats_laws.specs.Grow.{Entry, low, new, high, entry, grown}
use Rattle.repeats_laws.specs.Items.{item_at, item_end}

-- the first m entries of l are the places of the items seen, in ascending order, all before `at`
pub record Holds (s : List ℕ) (item : Item) (l : List ℕ) (m at : ℕ) (seen : List ℕ → Bool) : Type 0 where
  pub ascends : Ascends s l m
  pub early : (j : ℕ) → j < m → get_or l j 0 ≤ at
  pub kept : (j : ℕ) → j < m → seen (item_at s item (get_or l j 0)) ≡ true
  pub only : (y : List ℕ) → seen y ≡ true → (j : ℕ) × (j < m) × (item_at s item (get_or l j 0) ≡ y)

pub not_true : (t : Bool) → (t ≡ true → ⊥) → t ≡ false
not_true true h = absurd (h refl)
not_true false h = refl

-- ---- one item more

module _ (s : List ℕ) (item : Item) (l : List ℕ) (m at p : ℕ) (seen : List ℕ → Bool) (g : Holds s item l m at seen)
    (miss : Missing s l m at (size_of s item at) p) (room : m < length l) where
  abbrev w : List ℕ
  w = insert l m p at

  abbrev now : List ℕ → Bool
  now y = eqs (item_at s item at) y || seen y

  early' : (j : ℕ) → Entry l w m p at j → j < suc m → get_or w j 0 ≤ at
  early' j (low h e) i = let v = miss.inside in rw e (g.early j (omega arith))
  early' j (new e) i = omega arith
  early' j (high {j = y} h r e) i = rw e (g.early y r)

  kept' : (j : ℕ) → Entry l w m p at j → j < suc m → now (item_at s item (get_or w j 0)) ≡ true
  kept' j (low h e) i = let v = miss.inside in rw (e, g.kept j (omega arith), or-true)
  kept' j (new e) i = rw (e, eqs_eq (item_at s item at) (item_at s item at) refl)
  kept' j (high {j = y} h r e) i = rw (e, g.kept y r, or-true)

  only' : (y : List ℕ) → (eqs (item_at s item at) y ≡ true) ⊎ (seen y ≡ true) → (j : ℕ) × (j < suc m) × (item_at s item (get_or w j 0) ≡ y)
  only' y (inl e) =
      let v = miss.inside in
      (p, omega arith, rw (insert_at l m p at room v) (eqs_true _ _ e))
  only' y (inr e) =
      let v = miss.inside in
      let q = g.only y e in
      let i = q.1 in
      elim (dec_lt q.0 p) [
        | yes h ↦ (q.0, omega arith, rw (insert_low l m p at room v q.0 h) q.2)
        | no h ↦ (suc q.0, omega arith, rw (insert_high l m p at room v q.0 (omega arith) i) q.2)
      ]

  pub more_held : Holds s item (insert l m p at) (suc m) (item_end s item at) (λ y. eqs (item_at s item at) y || seen y)
  unfolding item_end
  more_held = record {
    ascends = grown s l m at (size_of s item at) p g.ascends miss room;
    early = λ j i. let h = early' j (entry l m p at room miss.inside j i) i in omega arith;
    kept = λ j i. kept' j (entry l m p at room miss.inside j i) i;
    only = λ y e. only' y (either (eqs (item_at s item at) y) (seen y) e);
  }

-- ---- the table

module _ (s : List ℕ) (item : Item) where
  -- one item, told apart from those seen or not
  module _ (l : List ℕ) (m at : ℕ) (seen : List ℕ → Bool) (g : Holds s item l m at seen) where
    abbrev pub z : ℕ
    z = size_of s item at

-- nothing is seen at first
pub empty : (s : List ℕ) (item : Item) (l : List ℕ) (at : ℕ) → Holds s item l 0 at (λ y. false)
empty s item l at = record {
  ascends = record { ups = λ i j r t. absurd (omega arith) };
  early = λ j i. absurd (omega arith);
  kept = λ j i. absurd (omega arith);
  only = λ y e. let z : ◌≡◌ {A = ℕ} 0 1 = cc in absurd (omega arith);
}
