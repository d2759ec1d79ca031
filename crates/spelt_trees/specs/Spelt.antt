-- What is spelt at a place of a file stands there: its value, and the place behind it.
use Rattle.std.specs.Prelude.{ℕ, ◌+◌, ◌-◌, ◌≤◌, ◌≡◌, refl, List, ◌++◌, length, drop}
use Rattle.std.proofs.Common.{sym, ap, ◌∙◌, arith, length-append, length-drop, drop-drop}
use Rattle.std.proofs.Math.Option.{some}
use Rattle.std.proofs.Math.Seq.{drop-append_seam}
use Rattle.net_file.specs.Read.{Parser}
use Rattle.net_file_laws.specs.Exact.{Exact}
use Rattle.stored.specs.Laws.{Stands}

-- from a place of s on stand these bytes, and then others
pub record Spelt (s : List ℕ) (at : ℕ) (bs r : List ℕ) : Type 0 where
  pub inside : at ≤ length s
  pub bytes : drop at s ≡ bs ++ r

module _ (s : List ℕ) (at : ℕ) (bs r : List ℕ) (h : Spelt s at bs r) where
  pub spelt_length : length s - at ≡ length bs + length r
  spelt_length = let i = h.inside in sym (length-drop at s) ∙ ap length h.bytes ∙ length-append bs r

  pub spelt_room : at + length bs ≤ length s
  spelt_room = let i = h.inside in omega (arith, spelt_length)

  pub spelt_behind : drop (at + length bs) s ≡ r
  spelt_behind = sym (drop-drop (length bs) at s) ∙ ap (drop (length bs)) h.bytes ∙ drop-append_seam bs r

-- two parts, one after the other
module _ (s : List ℕ) (at : ℕ) (xs ys r : List ℕ) (h : Spelt s at (xs ++ ys) r) where
  pub spelt_first : ((xs ++ ys) ++ r ≡ xs ++ (ys ++ r)) → Spelt s at xs (ys ++ r)
  spelt_first e = record { inside = h.inside; bytes = h.bytes ∙ e }

pub spelt_next : (s : List ℕ) (at : ℕ) (xs ys r : List ℕ) → Spelt s at xs (ys ++ r) → Spelt s (at + length xs) ys r
spelt_next s at xs ys r h = record { inside = spelt_room s at xs (ys ++ r) h; bytes = spelt_behind s at xs (ys ++ r) h }

-- what a parser reads that is exact
module _ {A : Type 0} {p : Parser A} {w : A → List ℕ} {Fits : A → Type 0} (x : Exact p w Fits) {s : List ℕ} {at e : ℕ} {v : A} (st : Stands s p at v e)
    (a : A) (r : List ℕ) (f : Fits a) (h : Spelt s at (w a) r) where
  spelt_read : (a ≡ v) × (r ≡ drop e s) × (at ≤ e) × (e ≤ length s)
  spelt_read = st.by a r h.inside (ap p h.bytes ∙ x.reads a f r)

  pub spelt_is : a ≡ v
  spelt_is = spelt_read.0

  pub spelt_end : e ≡ at + length (w a)
  spelt_end =
      let y = spelt_read in
      let l : length r ≡ length s - e = ap length y.1 ∙ length-drop e s in
      let u = y.2 in
      let z = y.3 in
      omega (arith, spelt_length s at (w a) r h)
