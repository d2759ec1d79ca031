-- Bytes stored one part after another, and parts stored apart: the order does not matter.
use Rattle.std.specs.Prelude.{Option, Some, ℕ, ◌+◌, ◌-◌, ◌<◌, ◌≤◌, ◌≡◌, refl, List, ◌++◌, length, get_or, take, drop}
use Rattle.std.proofs.Common.{sym, ap, ◌∙◌, arith, length-append, ext_get_or, get_or-append-add, get_or-take, get_or-drop, length-take-le}
use Rattle.std.proofs.Math.Decide.{dec_lt}
use Rattle.std.proofs.Math.ListN.{get_or-append}
use Rattle.put.specs.Written.{Written}
use Rattle.put.specs.Laws.{put_in_yes, length_put_in, begin, placed, then}
use Rattle.store.specs.Store.{store}

module _ (out : List ℕ) (at : ℕ) (bs : List ℕ) (room : at + length bs ≤ length out) where
  pub length_store : length (store at bs out) ≡ length out
  length_store = length_put_in out at bs room

  front : length (take at out ++ bs) ≡ at + length bs
  front = let t : length (take at out) ≡ at = length-take-le at out (omega arith) in let a = length-append (take at out) bs in omega arith

  -- the bytes themselves
  pub store_in : (i : ℕ) → i < length bs → get_or (store at bs out) (at + i) 0 ≡ get_or bs i 0
  store_in i h =
      let t : length (take at out) ≡ at = length-take-le at out (omega arith) in
      let f = front in
      rw (put_in_yes out at bs room)
      (get_or-append (take at out ++ bs) (drop (at + length bs) out) 0 (at + i) (omega arith)
      ∙ ap (λ (j : ℕ). get_or (take at out ++ bs) (j + i) 0) (sym t) ∙ get_or-append-add (take at out) bs i 0)

  -- what stands before them
  pub store_before : (i : ℕ) → i < at → get_or (store at bs out) i 0 ≡ get_or out i 0
  store_before i h =
      let t : length (take at out) ≡ at = length-take-le at out (omega arith) in
      let f = front in
      rw (put_in_yes out at bs room)
      (get_or-append (take at out ++ bs) (drop (at + length bs) out) 0 i (omega arith)
      ∙ get_or-append (take at out) bs 0 i (omega arith) ∙ get_or-take at out i 0 h)

  -- and after them
  pub store_after : (i : ℕ) → at + length bs ≤ i → get_or (store at bs out) i 0 ≡ get_or out i 0
  store_after i h =
      let f = front in
      let k : i ≡ length (take at out ++ bs) + (i - (at + length bs)) = omega arith in
      let k' : at + length bs + (i - (at + length bs)) ≡ i = omega arith in
      rw (put_in_yes out at bs room)
      (ap (λ (j : ℕ). get_or (take at out ++ bs ++ drop (at + length bs) out) j 0) k ∙ get_or-append-add (take at out ++ bs) (drop (at + length bs) out) (i - (at + length bs)) 0
      ∙ get_or-drop (at + length bs) out (i - (at + length bs)) 0 ∙ ap (λ (j : ℕ). get_or out j 0) k')

-- one part right after another
pub store_then : (out : List ℕ) (at : ℕ) (xs ys : List ℕ) → at + (length xs + length ys) ≤ length out
    → store (at + length xs) ys (store at xs out) ≡ store at (xs ++ ys) out
store_then out at xs ys room =
    let l = length_put_in out at xs (omega arith) in
    let first : Written xs at out (store at xs out) (Some (at + length xs)) = placed (record { is = refl }) (omega arith) refl in
    let second : Written ys (at + length xs) (store at xs out) (store (at + length xs) ys (store at xs out)) (Some (at + length xs + length ys))
    = placed (record { is = refl }) (omega arith) refl in
    (then (begin (record { is = refl }) first) (record { is = refl }) refl room second).written.out

-- parts apart, in either order
pub store_apart : (out : List ℕ) (a b : ℕ) (xs ys : List ℕ) → b + length ys ≤ a → a + length xs ≤ length out
    → store b ys (store a xs out) ≡ store a xs (store b ys out)
store_apart out a b xs ys apart room =
    let la = length_store out a xs room in
    let lb = length_store out b ys (omega arith) in
    let lab = length_store (store a xs out) b ys (omega arith) in
    let lba = length_store (store b ys out) a xs (omega arith) in
    ext_get_or 0 _ _ (omega arith) (λ i h. go i (dec_lt i b) (dec_lt i (b + length ys)) (dec_lt i a) (dec_lt i (a + length xs)))
  where
    both_after : (i : ℕ) → i < b → get_or (store b ys (store a xs out)) i 0 ≡ get_or (store a xs (store b ys out)) i 0
    both_after i h =
        let la = length_store out a xs room in
        let lb = length_store out b ys (omega arith) in
        store_before (store a xs out) b ys (omega arith) i h ∙ store_before out a xs room i (omega arith)
        ∙ sym (store_before (store b ys out) a xs (omega arith) i (omega arith) ∙ store_before out b ys (omega arith) i h)

    in_first : (i : ℕ) → b ≤ i → i < b + length ys → get_or (store b ys (store a xs out)) i 0 ≡ get_or (store a xs (store b ys out)) i 0
    in_first i g h =
        let la = length_store out a xs room in
        let lb = length_store out b ys (omega arith) in
        let k : i ≡ b + (i - b) = omega arith in
        rw k (store_in (store a xs out) b ys (omega arith) (i - b) (omega arith)
        ∙ sym (store_before (store b ys out) a xs (omega arith) (b + (i - b)) (omega arith) ∙ store_in out b ys (omega arith) (i - b) (omega arith)))

    amid : (i : ℕ) → b + length ys ≤ i → i < a → get_or (store b ys (store a xs out)) i 0 ≡ get_or (store a xs (store b ys out)) i 0
    amid i g h =
        let la = length_store out a xs room in
        let lb = length_store out b ys (omega arith) in
        store_after (store a xs out) b ys (omega arith) i g ∙ store_before out a xs room i h
        ∙ sym (store_before (store b ys out) a xs (omega arith) i h ∙ store_after out b ys (omega arith) i g)

    in_second : (i : ℕ) → a ≤ i → i < a + length xs → get_or (store b ys (store a xs out)) i 0 ≡ get_or (store a xs (store b ys out)) i 0
    in_second i g h =
        let la = length_store out a xs room in
        let lb = length_store out b ys (omega arith) in
        let k : i ≡ a + (i - a) = omega arith in
        rw k (store_after (store a xs out) b ys (omega arith) (a + (i - a)) (omega arith) ∙ store_in out a xs room (i - a) (omega arith)
        ∙ sym (store_in (store b ys out) a xs (omega arith) (i - a) (omega arith)))

    both_before : (i : ℕ) → a + length xs ≤ i → get_or (store b ys (store a xs out)) i 0 ≡ get_or (store a xs (store b ys out)) i 0
    both_before i g =
        let la = length_store out a xs room in
        let lb = length_store out b ys (omega arith) in
        store_after (store a xs out) b ys (omega arith) i (omega arith) ∙ store_after out a xs room i g
        ∙ sym (store_after (store b ys out) a xs (omega arith) i g ∙ store_after out b ys (omega arith) i (omega arith))

    go : (i : ℕ) → Dec (i < b) → Dec (i < b + length ys) → Dec (i < a) → Dec (i < a + length xs)
        → get_or (store b ys (store a xs out)) i 0 ≡ get_or (store a xs (store b ys out)) i 0
    go i (yes h) q r s = both_after i h
    go i (no h) (yes q) r s = in_first i (omega arith) q
    go i (no h) (no q) (yes r) s = amid i (omega arith) r
    go i (no h) (no q) (no r) (yes s) = in_second i (omega arith) s
    go i (no h) (no q) (no r) (no s) = both_before i (omega arith)
