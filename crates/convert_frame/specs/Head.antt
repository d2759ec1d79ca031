-- What a result begins with, and that with its nets after it it is the whole result.
use Rattle.std.specs.Prelude.{ℕ, ◌+◌, ◌-◌, ◌%◌, ◌≤◌, ◌<◌, ◌≡◌, refl, List, [], ◌∷◌, ◌++◌}
use Rattle.std.proofs.Common.{sym, ap, ◌∙◌, append_assoc, length-append}
use native.Mathlib.Omega.{arith}
use Rattle.std.proofs.Math.ListN.{length}
use Rattle.net_file.specs.Write.{be}
use Rattle.net_file_laws.specs.Bytes.{length_be}
use Rattle.stored.specs.Stored.{net_count_at}
use Rattle.put.specs.Written.{part}
use Rattle.text_writers.specs.Wrote.{Wrote, then, wrote_as}
use Rattle.field_writers.specs.Fields.{four_wraps}
use Rattle.convert_laws.specs.Tables.{tables_at}
use Rattle.convert_laws.specs.Frame.{after_length, framed}

-- the length field of a result of so many bytes, its version, what stands in the file from the limit up to a place, a count
unfoldable pub head_bytes : List ℕ → ℕ → ℕ → ℕ → ℕ → List ℕ
head_bytes s place version count n = be 4 (n - 4) ++ (be 1 version ++ (part s 5 (place - 5) ++ be 2 count))

pub head_written : (s out m o x w : List ℕ) (place version count n v p q t r : ℕ) → v ≡ (n - 4) % 4294967296 → Wrote (be 4 v) 0 out m p → Wrote (be 1 version) p m o q
    → Wrote (part s 5 (place - 5)) q o x t → Wrote (be 2 count) t x w r → Wrote (head_bytes s place version count n) 0 out w r
unfolding head_bytes
head_written s out m o x w place version count n v p q t r e f g h i =
    then (wrote_as (ap (be 4) e ∙ four_wraps (n - 4)) f) (then g (then h i))

module _ (s : List ℕ) (version count : ℕ) (nets : List ℕ) where
  -- how long a result is does not depend on what its length field says
  pub head_length : (n : ℕ) → length (head_bytes s (net_count_at s) version count n ++ nets) ≡ length (framed s version (be 2 count ++ nets))
  unfolding head_bytes framed after_length tables_at
  head_length n = simp (length-append, length_be) (omega arith)

  -- with its own length in that field, and its nets after it, it is the whole result
  pub head_framed : (n : ℕ) → n ≡ length (framed s version (be 2 count ++ nets)) → head_bytes s (net_count_at s) version count n ++ nets ≡ framed s version (be 2 count ++ nets)
  unfolding head_bytes framed after_length tables_at
  head_framed n e =
      let b = be 1 version ++ part s 5 (net_count_at s - 5) ++ (be 2 count ++ nets) in
      let k : length (be 4 (length b) ++ b) ≡ 4 + length b = simp (length-append, length_be) in
      let l : n - 4 ≡ length b = omega arith in
      rw l (simp append_assoc)
