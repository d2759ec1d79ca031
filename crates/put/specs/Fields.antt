-- The stores of each field, and of a run of bytes or numbers, write what net_file says.
use Rattle.std.specs.Prelude.{ℕ, Option, Some, zero, suc, ◌+◌, ◌*◌, ◌-◌, ◌/◌, ◌%◌, ◌^◌, ◌≤◌, ◌<◌, Bool, true, false, ◌≡◌, refl, List, [], ◌∷◌, ◌++◌, length, get_or, take, drop, set}
use Rattle.std.proofs.Common.{sym, ap, ◌∙◌, append_assoc, append-nil, div-one, add-one, length-append, length-drop, take-append-drop, take-suc, get_or-drop}
use Rattle.std.proofs.Math.Numerals.{unary_clauses}
use native.Mathlib.Omega.{arith}
use Rattle.std.proofs.Math.Seq.{length-take-le, take-length, paste, paste-suc}
use Rattle.std.specs.Int.{bytes_high_first}
use Rattle.net_file.specs.Lists.{bit}
use Rattle.net_file.specs.Write.{be, counted}
use Rattle.put.specs.Written.{put_in, Written, WrittenIf, Short, part, numbers}
use Rattle.put.specs.Laws.{Size, put_in_yes, length_put_in, stored, placed, both, begin, then, written_if}

length_be : (k n : ℕ) → length (be k n) ≡ k
unfolding be
length_be zero n = refl
length_be (suc k) n = ap suc (length_be k n)

pub size_be : (k n : ℕ) → Size (be k n) k
size_be k n = record { is = length_be k n }

-- std's bytes of a number are the same
pub be_bytes : (k n : ℕ) → bytes_high_first k n ≡ be k n
unfolding be
be_bytes zero n = refl
be_bytes (suc zero) n = rw div-one
be_bytes (suc (suc k)) n = ap (λ bs. n / 256 ^ suc k % 256 ∷ bs) (be_bytes (suc k) n)

pub number : (k v : ℕ) {at : ℕ} {bs out w : List ℕ} {r : Option ℕ} → bs ≡ bytes_high_first k v → Written bs at out w r → Written (be k v) at out w r
number k v e p = rw (← be_bytes k v, ← e) p

-- one number
module _ (out : List ℕ) (at v : ℕ) where
  pub stored8 : at + 1 ≤ length out → v < 256 → Written (be 1 v) at out (set out at v) (Some (at + 1))
  unfolding be
  stored8 h l = let e : v / 1 % 256 ≡ v = omega arith in stored h (rw e)

  pub stored16 : at + 2 ≤ length out → Written (be 2 v) at out (set (set out at (v / 256 % 256)) (at + 1) (v % 256)) (Some (at + 2))
  unfolding be
  stored16 h = stored h (simp (unary_clauses, div-one))

  pub stored32 : at + 4 ≤ length out
      → Written (be 4 v) at out (set (set (set (set out at (v / 16777216 % 256)) (at + 1) (v / 65536 % 256)) (at + 2) (v / 256 % 256)) (at + 3) (v % 256)) (Some (at + 4))
  unfolding be
  stored32 h = stored h (simp (unary_clauses, div-one))

  pub stored64 : at + 8 ≤ length out
      → Written (be 8 v) at out
      (set (set (set (set (set (set (set (set out at (v / 72057594037927936 % 256)) (at + 1) (v / 281474976710656 % 256)) (at + 2) (v / 1099511627776 % 256))
      (at + 3) (v / 4294967296 % 256)) (at + 4) (v / 16777216 % 256)) (at + 5) (v / 65536 % 256)) (at + 6) (v / 256 % 256)) (at + 7) (v % 256))
      (Some (at + 8))
  unfolding be
  stored64 h = stored h (simp (unary_clauses, div-one))

-- nothing
pub put_in_none : (out : List ℕ) (at : ℕ) → at ≤ length out → out ≡ put_in out at []
put_in_none out at h =
    let z : at + 0 ≡ at = omega arith in
    let e : take at out ++ [] ++ drop (at + 0) out ≡ out = rw (z, append-nil, take-append-drop) in
    sym (put_in_yes out at [] (omega arith) ∙ e)

-- 1 for true, 0 for false
module _ {b : Bool} {at : ℕ} {out w : List ℕ} {r : Option ℕ} where
  pub bit_one : b ≡ true → Written (be 1 1) at out w r → Written (be 1 (bit b)) at out w r
  bit_one e p = rw e p

  pub bit_zero : b ≡ false → Written (be 1 0) at out w r → Written (be 1 (bit b)) at out w r
  bit_zero e p = rw e p

-- a part of a slice, so far as it was copied
module _ (s : List ℕ) (from n : ℕ) (there : from + n ≤ length s) where
  rest_long : n ≤ length (drop from s)
  rest_long = rw length-drop (omega arith)

  pub size_part : Size (part s from n) n
  unfolding part
  size_part = record { is = length-take-le n (drop from s) rest_long }

  put_in_part : (out : List ℕ) (at : ℕ) → at + n ≤ length out → put_in out at (part s from n) ≡ paste out at (drop from s) n
  unfolding part
  put_in_part out at h = let l = size_part.is in put_in_yes out at (part s from n) (omega arith) ∙ rw l

module _ (out s w : List ℕ) (at from i n : ℕ) (e : w ≡ put_in out at (part s from i)) (room : at + n ≤ length out) (there : from + n ≤ length s) where
  pub part_next : i < n → set w (at + i) (get_or s (from + i) 0) ≡ put_in out at (part s from (i + 1))
  part_next h =
      let l = length-drop from s in
      let before : w ≡ paste out at (drop from s) i = e ∙ put_in_part s from i (omega arith) out at (omega arith) in
      let after = put_in_part s from (i + 1) (omega arith) out at (omega arith) in
      rw (after, before, add-one, ← get_or-drop from s i 0) (paste-suc out at (drop from s) i 0 (omega arith) (omega arith))

  pub part_done : i ≤ n → n ≤ i → Written (part s from n) at out w (Some (at + n))
  part_done h h' = let j : i ≡ n = omega arith in placed (size_part s from n there) room (rw j at e)

-- numbers
length_numbers : (ns : List ℕ) → length (numbers ns) ≡ 2 * length ns
unfolding numbers
length_numbers [] = refl
length_numbers (n ∷ ns) = rw (length-append, length_be, length_numbers ns) (omega arith)

numbers_append : (ns : List ℕ) (n : ℕ) → numbers (ns ++ (n ∷ [])) ≡ numbers ns ++ be 2 n
unfolding numbers
numbers_append [] n = append-nil (be 2 n)
numbers_append (m ∷ ns) n = rw (numbers_append ns n, append_assoc)

pub size_numbers : (ns : List ℕ) → Size (numbers ns) (2 * length ns)
size_numbers ns = record { is = length_numbers ns }

module _ (out ns w : List ℕ) (at i : ℕ) (e : w ≡ put_in out at (numbers (take i ns))) (room : at + 2 * length ns ≤ length out) where
  pub numbers_more : {w' : List ℕ} {r : Option ℕ} → i < length ns → Written (be 2 (get_or ns i 0)) (at + 2 * i) w w' r → w' ≡ put_in out at (numbers (take (i + 1) ns))
  numbers_more h p =
      let v = get_or ns i 0 in
      let xs = numbers (take i ns) in
      let t : length (take i ns) ≡ i = length-take-le i ns (omega arith) in
      let l : Size xs (2 * i) = record { is = length_numbers (take i ns) ∙ rw t } in
      rw (add-one i, take-suc ns i 0, numbers_append)
      (then (begin l (placed l (omega arith) e)) (size_be 2 v) refl (omega arith) p).written.out

  pub numbers_next : i < length ns → set (set w (at + 2 * i) (get_or ns i 0 / 256 % 256)) (at + 2 * i + 1) (get_or ns i 0 % 256) ≡ put_in out at (numbers (take (i + 1) ns))
  numbers_next h =
      let t : length (take i ns) ≡ i = length-take-le i ns (omega arith) in
      let s = length_numbers (take i ns) in
      let m : length w ≡ length out = rw e (length_put_in out at (numbers (take i ns)) (omega arith)) in
      numbers_more h (stored16 w (at + 2 * i) (get_or ns i 0) (omega arith))

  pub numbers_done : i ≤ length ns → length ns ≤ i → Written (numbers ns) at out w (Some (at + 2 * length ns))
  numbers_done h h' = let j : i ≡ length ns = omega arith in placed (size_numbers ns) room (e ∙ rw (j, take-length))

-- the count, then the numbers
pub size_counted : (ns : List ℕ) → Size (counted 1 (be 2) ns) (1 + 2 * length ns)
unfolding counted numbers
size_counted ns = both (size_be 1 (length ns)) (size_numbers ns)

pub counted_parts : (out m w ns : List ℕ) (at space : ℕ) (q r : Option ℕ) → Short ns → space ≡ length out - at → 1 + 2 * length ns ≤ space
    → Written (be 1 (length ns)) at out m q → Written (numbers ns) (at + 1) m w r → WrittenIf (Short ns) (counted 1 (be 2) ns) at out w r
unfolding counted numbers
counted_parts out m w ns at space q r h e f p p' = written_if h (then (begin (size_be 1 (length ns)) p) (size_numbers ns) refl (omega arith) p').written
