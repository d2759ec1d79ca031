-- Each way out of the writers of fields: the parts of a field, written one after another, are what net_file writes for it.
use Prim.Native.Nat.{ℕ, zero, suc, ◌+◌, ◌*◌, ◌-◌, ◌/◌, ◌%◌, ◌≤◌, ◌<◌}
use Rattle.std.proofs.Math.Path.{◌≡◌, refl}
use Rattle.std.proofs.Common.{sym, ap, ◌∙◌, not-suc-le-zero, div-one, add-one, drop_of_length-le, length-drop, take_all, eq-eqb, ne_eqb}
use Rattle.std.specs.Prelude.{Bool, length, get_or, take, drop, eqb}
use mathlib.Core.List.{List, [], ◌∷◌, ◌++◌}
use native.Mathlib.Omega.{arith}
use Rattle.std.proofs.Math.Decide.{dec_lt}
use Rattle.std.proofs.Math.Numerals.{unary_clauses}
use Rattle.std.proofs.Math.Seq.{drop-cons}
use Rattle.net_file.specs.Lists.{bit, concat_map}
use Rattle.net_file.specs.Write.{be, counted, write_name, write_head}
use Rattle.fields.specs.Fields.{byte, be16, be32, be64}
use Rattle.stored.specs.Stored.{table_at, numbers_at, list_at, name_at}
use Rattle.ends.specs.Ends.{on}
use Rattle.readers_laws.specs.Tables.{list_length, list_clamped}
use Rattle.readers.specs.Places.{byte_clamped}
use Rattle.put.specs.Written.{part}
use Rattle.text_writers.specs.Wrote.{far, Wrote, then, wrote_as, Still, still_all, still_on, still_none}

-- ---- numbers

four_halves : (v : ℕ) → be 2 (v / 65536 % 65536) ++ be 2 (v % 65536) ≡ be 4 v
unfolding be
four_halves v =
    let a : v / 65536 % 65536 / 256 % 256 ≡ v / 16777216 % 256 = omega arith in
    let b : v / 65536 % 65536 / 1 % 256 ≡ v / 65536 % 256 = omega arith in
    let c : v % 65536 / 256 % 256 ≡ v / 256 % 256 = omega arith in
    let d : v % 65536 / 1 % 256 ≡ v / 1 % 256 = omega arith in
    λ i. a i ∷ b i ∷ c i ∷ d i ∷ []

-- a number of four bytes is what is left of any number below 256 ^ 4
pub four_wraps : (v : ℕ) → be 4 (v % 4294967296) ≡ be 4 v
unfolding be
four_wraps v = λ i. a v i ∷ b v i ∷ c v i ∷ d v i ∷ []
  where
    a : (v : ℕ) → v % 4294967296 / 16777216 % 256 ≡ v / 16777216 % 256
    a v = omega arith

    b : (v : ℕ) → v % 4294967296 / 65536 % 256 ≡ v / 65536 % 256
    b v = omega arith

    c : (v : ℕ) → v % 4294967296 / 256 % 256 ≡ v / 256 % 256
    c v = omega arith

    d : (v : ℕ) → v % 4294967296 / 1 % 256 ≡ v / 1 % 256
    d v = omega arith

eight_halves : (v : ℕ) → be 4 (v / 4294967296) ++ be 4 v ≡ be 8 v
unfolding be
eight_halves v = λ i. a v i ∷ b v i ∷ c v i ∷ d v i ∷ v / 16777216 % 256 ∷ v / 65536 % 256 ∷ v / 256 % 256 ∷ v / 1 % 256 ∷ []
  where
    a : (v : ℕ) → v / 4294967296 / 16777216 % 256 ≡ v / 72057594037927936 % 256
    a v = omega arith

    b : (v : ℕ) → v / 4294967296 / 65536 % 256 ≡ v / 281474976710656 % 256
    b v = omega arith

    c : (v : ℕ) → v / 4294967296 / 256 % 256 ≡ v / 1099511627776 % 256
    c v = omega arith

    d : (v : ℕ) → v / 4294967296 / 1 % 256 ≡ v / 4294967296 % 256
    d v = omega arith

two_high : (v : ℕ) → get_or (be 2 v) 0 0 ≡ v / 256 % 256
unfolding be
two_high v = refl

two_low : (v : ℕ) → get_or (be 2 v) 1 0 ≡ v % 256
unfolding be
two_low v = omega arith

module _ (at v : ℕ) (out w : List ℕ) (r : ℕ) where
  pub one_is : v < 256 → Wrote (v ∷ []) at out w r → Wrote (be 1 v) at out w r
  unfolding be
  one_is h t = let e : v ≡ v / 1 % 256 = omega arith in wrote_as (ap (λ x. x ∷ []) e) t

  pub two_is : (p : ℕ) (m : List ℕ) → Wrote (v / 256 % 256 ∷ []) at out m p → Wrote (v % 256 ∷ []) p m w r → Wrote (be 2 v) at out w r
  unfolding be
  two_is p m t u = wrote_as (simp (unary_clauses, div-one)) (then t u)

  -- its bytes one after the other
  pub two_bytes : (bs : List ℕ) (p : ℕ) (m : List ℕ) → bs ≡ be 2 v → Wrote (get_or bs 0 0 ∷ []) at out m p → Wrote (get_or bs 1 0 ∷ []) p m w r → Wrote (be 2 v) at out w r
  two_bytes bs p m e t u =
      let high = two_high v in
      let low = two_low v in
      two_is p m (wrote_as (ap (λ x. x ∷ []) (ap (λ l. get_or l 0 0) e ∙ high)) t) (wrote_as (ap (λ x. x ∷ []) (ap (λ l. get_or l 1 0) e ∙ low)) u)

  pub four_is : (p : ℕ) (m : List ℕ) → Wrote (be 2 (v / 65536 % 65536)) at out m p → Wrote (be 2 (v % 65536)) p m w r → Wrote (be 4 v) at out w r
  four_is p m t u = wrote_as (four_halves v) (then t u)

  pub eight_is : (p : ℕ) (m : List ℕ) → Wrote (be 4 (v / 4294967296 % 4294967296)) at out m p → Wrote (be 4 (v % 4294967296)) p m w r → Wrote (be 8 v) at out w r
  eight_is p m t u = wrote_as (eight_halves v) (then (wrote_as (four_wraps (v / 4294967296)) t) (wrote_as (four_wraps v) u))

-- ---- bytes as they stand

module _ (s : List ℕ) (to i : ℕ) where
  part_next : i < to → i < length s → part s i (to - i) ≡ (get_or s i 0 ∷ []) ++ part s (i + 1) (to - (i + 1))
  unfolding part
  part_next h l = let e : to - i ≡ suc (to - (i + 1)) = omega arith in rw (e, drop-cons s i 0 l, add-one)

  part_none : to ≤ i → part s i (to - i) ≡ []
  unfolding part
  part_none h = let e : to - i ≡ 0 = omega arith in rw e

  part_past : length s ≤ i → part s i (to - i) ≡ []
  unfolding part
  part_past h = rw (drop_of_length-le s h) (take_none (to - i))
    where
      take_none : (n : ℕ) → ◌≡◌ {A = List ℕ} (take n []) []
      take_none zero = refl
      take_none (suc n) = refl

  module _ (at p end : ℕ) (out w whole : List ℕ) (e : end ≡ on s to 0) where
    pub bytes_more : (z : List ℕ) (q b : ℕ) → Still (part s i (to - i)) whole at out w p → i < end → b ≡ get_or s i 0 → Wrote (b ∷ []) p w z q
        → Still (part s (i + 1) (to - (i + 1))) whole at out z q
    bytes_more z q b st h eb t = still_on st (part_next (omega arith) (omega arith)) (rw eb at t)

    pub bytes_done : Still (part s i (to - i)) whole at out w p → end ≤ i → Wrote whole at out w p
    bytes_done st h = elim (dec_lt i to) [
      | yes l ↦ still_none st (part_past (omega arith))
      | no l ↦ still_none st (part_none (omega arith))
    ]

-- the same copied
module _ (s : List ℕ) (from to end at : ℕ) (out : List ℕ) (e : end ≡ on s to 0) where
  pub bytes_none : end ≤ from → at ≤ far → length out ≤ far → Wrote (part s from (to - from)) at out out at
  bytes_none h f l = bytes_done s to from at at end out out (part s from (to - from)) e (still_all f l) h

  pub bytes_copied : (r : ℕ) (w : List ℕ) → from < end → Wrote (take (end - from) (drop from s)) at out w r → Wrote (part s from (to - from)) at out w r
  unfolding part
  bytes_copied r w h t =
      let l = length-drop from s in
      elim (dec_lt (length s) to) [
        | yes k ↦ wrote_as (take_all (end - from) (drop from s) (omega arith) ∙ sym (take_all (to - from) (drop from s) (omega arith))) t
        | no k ↦ let d : end ≡ to = omega arith in wrote_as (rw d) t
      ]

-- ---- a list of numbers

module _ (s : List ℕ) (from : ℕ) where
  -- k numbers, from the j-th on
  unfoldable pub numbers_from : ℕ → ℕ → List ℕ
  numbers_from j k = concat_map (be 2) (numbers_at s (from + (1 + 2 * j)) k)

  numbers_next : (j k : ℕ) → 0 < k → numbers_from j k ≡ be 2 (be16 s (from + (1 + 2 * j))) ++ numbers_from (j + 1) (k - 1)
  unfolding numbers_from numbers_at table_at
  numbers_next j zero h = absurd (not-suc-le-zero h)
  numbers_next j (suc k) h =
      let e : from + (1 + 2 * j) + 2 ≡ from + (1 + 2 * (j + 1)) = omega arith in
      let f : suc k - 1 ≡ k = omega arith in
      rw (e, f)

  numbers_none : (j k : ℕ) → k ≤ 0 → numbers_from j k ≡ []
  unfolding numbers_from numbers_at table_at
  numbers_none j zero h = refl
  numbers_none j (suc k) h = absurd (not-suc-le-zero h)

  -- the count, and all of them
  list_whole : be 1 (byte s from) ++ numbers_from 0 (byte s from) ≡ counted 1 (be 2) (list_at s from)
  unfolding numbers_from counted list_at
  list_whole =
      let e : from + (1 + 2 * 0) ≡ from + 1 = omega arith in
      let l = list_length s from in
      λ i. be 1 (sym l i) ++ concat_map (be 2) (numbers_at s (e i) (byte s from))

  pub list_is : (at p k r : ℕ) (out m w : List ℕ) → k ≡ byte s from → Wrote (be 1 k) at out m p → Wrote (numbers_from 0 k) p m w r
      → Wrote (counted 1 (be 2) (list_at s from)) at out w r
  list_is at p k r out m w e t u = wrote_as list_whole (then (rw e at t) (rw e at u))

  module _ (at p j k : ℕ) (out w whole : List ℕ) where
    pub numbers_more : (z : List ℕ) (q v : ℕ) → Still (numbers_from j k) whole at out w p → 0 < k → v ≡ be16 s (from + (1 + 2 * j)) → Wrote (be 2 v) p w z q
        → Still (numbers_from (j + 1) (k - 1)) whole at out z q
    numbers_more z q v st h e t = still_on st (numbers_next j k h) (rw e at t)

    pub numbers_done : Still (numbers_from j k) whole at out w p → k ≤ 0 → Wrote whole at out w p
    numbers_done st h = still_none st (numbers_none j k h)

-- ---- a name, and the head of a net

module _ (s : List ℕ) (from at p r : ℕ) (out m w : List ℕ) where
  pub name_is : (x y q a : ℕ) (o : List ℕ) → x ≡ be16 s from → Wrote (be 2 x) at out m p → y ≡ be64 s (from + 2) → Wrote (be 8 y) p m o q → a ≡ on s from 10
      → Wrote (counted 1 (be 2) (list_at s a)) q o w r → Wrote (write_name (name_at s from)) at out w r
  unfolding write_name name_at
  name_is x y q a o ex t ey u ea v = then (then (rw ex at t) (rw ey at u)) (wrote_as (ap (counted 1 (be 2)) (list_clamped s (from + 10) a ea)) v)

  pub head_is : (x y q a : ℕ) (o : List ℕ) → x ≡ be16 s from → Wrote (be 2 x) at out m p → a ≡ on s from 2 → Wrote (be 1 (bit (eqb (byte s a) 1))) p m o q
      → y ≡ be32 s (from + 3) → Wrote (be 4 y) q o w r → Wrote (write_head (be16 s from) (eqb (byte s (from + 2)) 1) (be32 s (from + 3))) at out w r
  unfolding write_head
  head_is x y q a o ex t ea u ey v =
      let c : byte s a ≡ byte s (from + 2) = byte_clamped s (from + 2) a (byte s a) ea refl in
      then (then (rw ex at t) (wrote_as (ap (λ b. be 1 (bit (eqb b 1))) c) u)) (rw ey at v)

module _ (s : List ℕ) (from at r b : ℕ) (out w : List ℕ) (e : b ≡ byte s from) where
  pub mark_yes : b ≡ 1 → Wrote (be 1 1) at out w r → Wrote (be 1 (bit (eqb (byte s from) 1))) at out w r
  mark_yes h t = wrote_as (ap (λ (t : Bool). be 1 (bit t)) (sym (eq-eqb _ _ (sym e ∙ h)))) t

  pub mark_no : (b ≡ 1 → ⊥) → Wrote (be 1 0) at out w r → Wrote (be 1 (bit (eqb (byte s from) 1))) at out w r
  mark_no h t = wrote_as (ap (λ (t : Bool). be 1 (bit t)) (sym (ne_eqb _ _ (λ z. h (e ∙ z))))) t
