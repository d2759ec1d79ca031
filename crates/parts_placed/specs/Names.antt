-- A name by its place: the bytes up to its end are the name, written.
use Prim.Native.Nat.{ℕ, zero, suc, ◌+◌, ◌*◌, ◌≤◌}
use Rattle.std.specs.Prelude.{◌≡◌, List, drop}
use Rattle.std.proofs.Math.Path.{refl, sym}
use Rattle.std.proofs.Math.Option.{some}
use native.Mathlib.Omega.{arith}
use Rattle.std.proofs.Math.ListN.{length}
use Rattle.net_file.specs.Lists.{concat_map}
use Rattle.net_file.specs.Values.{Name}
use Rattle.net_file.specs.Read.{number}
use Rattle.net_file.specs.Write.{be, counted, write_name}
use Rattle.net_file_laws.specs.Bytes.{Bytes, bytes_drop, length_be}
use Rattle.net_file_laws.specs.Exact.{Exact, exact_number}
use Rattle.fields.specs.Fields.{byte, be16, be64}
use Rattle.stored.specs.Stored.{table_at, numbers_at, list_at, list_end, name_at, name_end}
use Rattle.stored.specs.Laws.{in_1, in_2, in_8, table_length}
use Rattle.ends.specs.Ends.{within}
use Rattle.store.specs.Store.{between}
use Rattle.parts_placed.specs.Spans.{Spans, spans_then, spans_between}

module _ (s : List ℕ) (is : Bytes s) where
  -- a number of k bytes
  spans_number : (k a x : ℕ) → a + k ≤ length s → number k (drop a s) ≡ (some (x, drop (a + k) s)) → Spans s a (a + k) (be k x)
  spans_number k a x h e =
      let w = (exact_number k).writes (drop a s) (bytes_drop a s is) x (drop (a + k) s) e in
      record { end = let l = length_be k x in omega arith; inside = h; is = w.1 }

  spans_numbers : (k a : ℕ) → a + 2 * k ≤ length s → Spans s a (a + 2 * k) (concat_map (be 2) (numbers_at s a k))
  unfolding numbers_at table_at
  spans_numbers zero a h = let z : a + 2 * 0 ≡ a = omega arith in rw z (record { end = omega arith; inside = omega arith; is = refl })
  spans_numbers (suc k) a h =
      let z : a + 2 * suc k ≡ a + 2 + 2 * k = omega arith in
      rw z (spans_then s a (a + 2) (a + 2 + 2 * k) (be 2 (be16 s a)) _ (spans_number 2 a (be16 s a) (omega arith) (in_2 s a (omega arith))) (spans_numbers k (a + 2) (omega arith)))

  spans_list : (a : ℕ) → list_end s a ≤ length s → Spans s a (list_end s a) (counted 1 (be 2) (list_at s a))
  unfolding list_at list_end counted numbers_at
  spans_list a h =
      let l : length (numbers_at s (a + 1) (byte s a)) ≡ byte s a = table_length s (be16 s) (λ b. b + 2) (a + 1) (byte s a) in
      spans_then s a (a + 1) (a + 1 + 2 * byte s a) (be 1 (length (numbers_at s (a + 1) (byte s a)))) _ (rw l (spans_number 1 a (byte s a) (omega arith) (in_1 s a (omega arith)))) (spans_numbers (byte s a) (a + 1) h)

  pub name_span : (a : ℕ) → name_end s a ≤ length s → Spans s a (name_end s a) (write_name (name_at s a))
  unfolding name_end name_at write_name list_end
  name_span a h =
      let e : a + 2 + 8 ≡ a + 10 = omega arith in
      spans_then s a (a + 10) (list_end s (a + 10)) _ _
      (spans_then s a (a + 2) (a + 10) _ _ (spans_number 2 a (be16 s a) (omega arith) (in_2 s a (omega arith)))
      (rw e at (spans_number 8 (a + 2) (be64 s (a + 2)) (omega arith) (in_8 s (a + 2) (omega arith))))) (spans_list (a + 10) h)

  -- what is copied of it
  pub name_copied : (a : ℕ) → name_end s a ≤ length s → between s a (within s (name_end s a)) ≡ write_name (name_at s a)
  name_copied a h = let e : within s (name_end s a) ≡ name_end s a = omega arith in rw e (spans_between s a (name_end s a) (write_name (name_at s a)) (name_span a h))

  -- and how many children it has
  pub name_children : (a : ℕ) → byte s (a + 10) ≡ length (name_at s a).children
  unfolding name_at list_at numbers_at
  name_children a = sym (table_length s (be16 s) (λ b. b + 2) (a + 10 + 1) (byte s (a + 10)))
