-- What was read at a place of the file was read part by part, each where the last ended.
use Rattle.std.specs.Prelude.{ℕ, ◌<◌, ◌≤◌, ◌≡◌, refl, Bool, true, false, List, length, drop, ltb}
use Rattle.std.proofs.Math.Option.{some}
use Rattle.std.proofs.Common.{arith, ltb-true}
use Rattle.net_file.specs.Read.{Parser, ◌>>=◌, such, number, below}
use Rattle.stored.specs.Laws.{Stands, some_value, bound}

-- the first part is v and ends at m, and there the rest was read
pub record Passed {A B : Type 0} (s : List ℕ) (p : Parser A) (f : A → Parser B) (at : ℕ) (v : A) (m : ℕ) (x : B) (r : List ℕ) : Type 0 where
  pub first : p (drop at s) ≡ some (v, drop m s)
  pub later : at ≤ m
  pub inside : m ≤ length s
  pub next : f v (drop m s) ≡ some (x, r)

pub pass : {A B : Type 0} {s : List ℕ} {p : Parser A} {at : ℕ} {v : A} {m : ℕ} (f : A → Parser B) (x : B) (r : List ℕ) → Stands s p at v m → at ≤ length s
    → (p >>= f) (drop at s) ≡ some (x, r) → Passed s p f at v m x r
pass {s = s} {p = p} {at = at} f x r h i g =
    let b = bound p f (drop at s) x r g in
    let y = h.by b.value b.rest i b.first in
    record { first = rw (y.0, y.1) at b.first; later = y.2; inside = y.3; next = rw (y.0, y.1) at b.next }

-- a number that was read below n is
pub under : (k n x : ℕ) (bs r : List ℕ) → below k n bs ≡ some (x, r) → x < n
unfolding below
under k n x bs r h = let b = bound (number k) (λ y. such (ltb y n) y) bs x r h in go b.value b.rest (ltb b.value n) refl b.next
  where
    go : (y : ℕ) (q : List ℕ) (t : Bool) → ltb y n ≡ t → such t y q ≡ some (x, r) → x < n
    go y q true e g = let z = (some_value g).0 in let i = ltb-true y n e in omega arith
    go y q false e g = let z : ◌≡◌ {A = ℕ} 0 1 = cc in absurd (omega arith)
