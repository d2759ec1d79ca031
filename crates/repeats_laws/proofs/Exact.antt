-- `differ` tells whether the items of a table are pairwise different.
use Prim.Native.Nat.{ℕ, zero, suc, ◌+◌, ◌≤◌}
use Rattle.std.specs.Prelude.{◌≡◌, Bool, true, false, ◌||◌, List, get_or, replicate}
use Rattle.std.proofs.Math.Path.{refl, sym}
use Rattle.std.proofs.Common.{◌∙◌, arith}
use Rattle.std.proofs.Math.Logic.{inl, inr}
use Rattle.std.proofs.Math.Decide.{dec_lt}
use Rattle.std.proofs.Math.Numerals.{add-one}
use Rattle.std.proofs.Math.ListN.{length, length-replicate}
use Rattle.words.specs.Choose.{lt_no, lt_split, pick_true, pick_false}
use Rattle.net_file.specs.Lists.{distinct, eqs}
use Rattle.stored.specs.Stored.{table_at, table_end}
use Rattle.repeats.specs.declared.Item.{Item}
use Rattle.repeats.specs.Repeats.{size_of, search, insert, differ_in, differ}
use Rattle.repeats_laws.specs.Runs.{Alike, alike_sym, alike_not_before}
use Rattle.repeats_laws.specs.Arrays.{length_insert}
use Rattle.repeats_laws.specs.Find.{Found, Missing, looked}
use Rattle.repeats_laws.specs.Fresh.{fresh, fresh_distinct}
use Rattle.repeats_laws.specs.Items.{item_at, item_end, after_end, items, item_same, item_alike}
use Rattle.repeats_laws.specs.Exact.{Holds, not_true, more_held, z, empty}

-- ---- the table

module _ (s : List ℕ) (item : Item) where
  -- one item, told apart from those seen or not
  module _ (l : List ℕ) (m at : ℕ) (seen : List ℕ → Bool) (g : Holds s item l m at seen) where
    seen_found : (p : ℕ) → Found s l m at (z s item l m at seen g) p → seen (item_at s item at) ≡ true
    seen_found p f = rw (item_same s item at (get_or l f.place 0) f.alike) (g.kept f.place f.inside)

    not_seen : (p : ℕ) → Missing s l m at (z s item l m at seen g) p → seen (item_at s item at) ≡ false
    not_seen p f = not_true (seen (item_at s item at)) (λ e.
        let q = g.only (item_at s item at) e in
        let h : Alike s (z s item l m at seen g) at (get_or l q.0 0) = item_alike s item at (get_or l q.0 0) (sym q.2) in
        elim (dec_lt q.0 p) [
          | yes i ↦ alike_not_before (alike_sym h) (f.below q.0 i)
          | no i ↦ alike_not_before h (f.above q.0 (omega arith) q.1)
        ])

  differ_fresh : (k : ℕ) (l : List ℕ) (at m : ℕ) (seen : List ℕ → Bool) → Holds s item l m at seen → m + k ≤ length l → length l ≤ 1024
      → table_end (item_end s item) at k ≤ length s
      → differ_in s item l at m k ≡ fresh eqs seen (table_at (item_at s item) (item_end s item) at k)
  unfolding differ_in fresh table_at table_end item_end
  differ_fresh zero l at m seen g h r t = refl
  differ_fresh (suc k) l at m seen g h r t =
      elim (looked s l m at (size_of s item at) g.ascends fits (λ j i. omega (arith, fits, g.early j i)) (omega arith)) [
        | inl f ↦
            sym (lt_no _ _ _ _ fits (pick_true _ _ _ f.told refl))
            ∙ pick_true _ _ _ (seen_found l m at seen g p f) refl
        | inr f ↦
            sym (lt_no _ _ _ _ fits (pick_false _ _ _ f.told refl))
            ∙ pick_false _ _ _ (not_seen l m at seen g p f) (rw add-one
            (differ_fresh k (insert l m p at) (item_end s item at) (suc m) (λ y. eqs (item_at s item at) y || seen y)
            (more_held s item l m at p seen g f (omega arith)) (rw (len f) (omega arith)) (rw (len f) r) t))
      ]
    where
      p : ℕ
      p = search s l m at (size_of s item at)

      fits : at + size_of s item at ≤ length s
      fits = let e = after_end s item k (at + size_of s item at) in omega arith

      len : Missing s l m at (size_of s item at) p → length (insert l m p at) ≡ length l
      len f = length_insert l m p at (omega arith) f.inside

module _ (s : List ℕ) (at n : ℕ) (item : Item) (t : table_end (item_end s item) at n ≤ length s) where
  -- with room for size places
  differ_by : (size : ℕ) → n ≤ size → size ≤ 1024 → differ_in s item (replicate size 0) at 0 n ≡ distinct eqs (items s at n item)
  unfolding items
  differ_by size h k =
      let r : length {A = ℕ} (replicate size 0) ≡ size = length-replicate {A = ℕ} size 0 in
      differ_fresh s item n (replicate size 0) at 0 (λ y. false) (empty s item (replicate size 0) at) (rw r (omega arith)) (rw r k) t
      ∙ fresh_distinct eqs (table_at (item_at s item) (item_end s item) at n)

-- of a table that lies within s
pub differ_exact : (s : List ℕ) (at n : ℕ) (item : Item) → n ≤ 1024 → table_end (item_end s item) at n ≤ length s
    → differ s at n item ≡ distinct eqs (items s at n item)
unfolding differ
differ_exact s at n item h t =
    sym (lt_no _ _ _ _ (omega arith) refl)
    ∙ lt_split 64 n _ _ (λ x. x ≡ distinct eqs (items s at n item)) (λ l. differ_by s at n item t 1024 (omega arith) (omega arith)) (λ l. differ_by s at n item t 64 l (omega arith))
