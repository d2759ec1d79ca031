-- What an exact parser leaves is a suffix: by its length, and by its place in the file, as code that goes by places has it.
use Rattle.std.specs.Prelude.{ℕ, ◌+◌, ◌-◌, ◌≤◌, ◌≡◌, List, [], ◌++◌, length, drop}
use Rattle.std.proofs.Common.{arith, sym, ap, ◌∙◌, length-append, length-drop, drop-drop}
use Rattle.std.proofs.Math.Option.{some}
use Rattle.std.proofs.Math.Seq.{drop-append_seam}
use Rattle.net_file.specs.Read.{Parser}
use Rattle.net_file_laws.specs.Bytes.{Bytes, bytes_drop}
use Rattle.net_file_laws.specs.Exact.{Exact}

module _ {A : Type 0} {p : Parser A} {w : A → List ℕ} {F : A → Type 0} (x : Exact p w F) (bs : List ℕ) (h : Bytes bs) where
  pub reads_suffix : (a : A) (r : List ℕ) → p bs ≡ some (a, r) → bs ≡ w a ++ r
  reads_suffix a r e = (x.writes bs h a r e).1

  pub reads_length : (a : A) (r : List ℕ) → p bs ≡ some (a, r) → length bs ≡ length (w a) + length r
  reads_length a r e = ap length (reads_suffix a r e) ∙ length-append (w a) r

  pub reads_drop : (a : A) (r : List ℕ) → p bs ≡ some (a, r) → r ≡ drop (length (w a)) bs
  reads_drop a r e = sym (drop-append_seam (w a) r) ∙ ap (drop (length (w a))) (sym (reads_suffix a r e))

  -- what is left does not depend on what was read, only on how much
  pub reads_tail : (a : A) (r : List ℕ) → p bs ≡ some (a, r) → r ≡ drop (length bs - length r) bs
  reads_tail a r e =
      let l : length (w a) ≡ length bs - length r = omega (arith, reads_length a r e) in
      reads_drop a r e ∙ ap (λ (n : ℕ). drop n bs) l

-- the same from place i on
module _ {A : Type 0} {p : Parser A} {w : A → List ℕ} {F : A → Type 0} (x : Exact p w F) (bs : List ℕ) (h : Bytes bs) (i : ℕ) where
  pub reads_place : (a : A) (r : List ℕ) → p (drop i bs) ≡ some (a, r) → r ≡ drop (i + length (w a)) bs
  reads_place a r e = reads_drop x (drop i bs) (bytes_drop i bs h) a r e ∙ drop-drop (length (w a)) i bs

  pub reads_inside : (a : A) (r : List ℕ) → i ≤ length bs → p (drop i bs) ≡ some (a, r) → i + length (w a) ≤ length bs
  reads_inside a r l e = omega (arith, reads_length x (drop i bs) (bytes_drop i bs h) a r e, length-drop i bs)
