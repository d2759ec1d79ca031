-- One turn of the comparison, in the code's terms, and its ends.
use Rattle.std.specs.Prelude.{ℕ, zero, suc, ◌+◌, ◌*◌, ◌-◌, ◌<◌, ◌≤◌, ◌≡◌, Bool, true, false, List, eqb}
use Rattle.std.proofs.Math.Path.{refl, sym}
use Rattle.std.proofs.Common.{ap, ◌∙◌, sub-one, not-suc-le-zero, eq-eqb, ne_eqb}
use native.Mathlib.Omega.{arith}
use Rattle.std.proofs.Math.Decide.{ℕ_discrete}
use Rattle.words.specs.Choose.{if_eq, eq_yes, eq_no, pick_true, pick_false}
use Rattle.fields.specs.Fields.{byte, be16, be32, be64}
use Rattle.node_names.specs.Names.{child_count, same_numbers, same_children, same_head, same_bytes}

numbers_turn : (s : List ℕ) (a b k : ℕ) → 0 < k → same_numbers s a b k ≡ if_eq (be16 s a) (be16 s b) (same_numbers s (a + 2) (b + 2) (k - 1)) false
unfolding same_numbers
numbers_turn s a b zero h = absurd (not-suc-le-zero h)
numbers_turn s a b (suc k) h = rw sub-one

module _ (s : List ℕ) (a b k p q : ℕ) (o : Bool) (e : same_numbers s a b k ≡ o) (h : 0 < k) (ep : p ≡ be16 s a) (eq : q ≡ be16 s b) where
  pub numbers_more : p ≡ q → same_numbers s (a + 2) (b + 2) (k - 1) ≡ o
  numbers_more i = eq_yes (be16 s a) (be16 s b) _ _ (sym ep ∙ i ∙ eq) refl ∙ sym (numbers_turn s a b k h) ∙ e

  pub numbers_differ : (p ≡ q → ⊥) → false ≡ o
  numbers_differ n = eq_no (be16 s a) (be16 s b) _ _ (λ i. n (ep ∙ i ∙ sym eq)) refl ∙ sym (numbers_turn s a b k h) ∙ e

pub numbers_done : (s : List ℕ) (a b k : ℕ) (o : Bool) → same_numbers s a b k ≡ o → k ≤ 0 → true ≡ o
unfolding same_numbers
numbers_done s a b zero o e h = e
numbers_done s a b (suc k) o e h = absurd (not-suc-le-zero h)

module _ (s : List ℕ) (x y p q : ℕ) (ep : p ≡ be64 s x) (eq : q ≡ be64 s y) where
  pub head_same : (m n : ℕ) → p ≡ q → m ≡ be64 s (x + 3) → n ≡ be64 s (y + 3) → eqb m n ≡ same_head s x y
  unfolding same_head
  head_same m n i em en = eq_yes (be64 s x) (be64 s y) _ _ (sym ep ∙ i ∙ eq) (rw (em, en))

  pub head_differs : (p ≡ q → ⊥) → false ≡ same_head s x y
  unfolding same_head
  head_differs n = eq_no (be64 s x) (be64 s y) _ _ (λ i. n (ep ∙ i ∙ sym eq)) refl

module _ (s : List ℕ) (x y : ℕ) (t : Bool) (e : t ≡ same_head s x y) where
  pub bytes_same : (k : ℕ) (r : Bool) → t ≡ true → k ≡ child_count s x → r ≡ same_children s x y k → r ≡ same_bytes s x y
  unfolding same_bytes
  bytes_same k r i ek er = pick_true _ _ _ (sym e ∙ i) (rw ek at er)

  pub bytes_differ : t ≡ false → false ≡ same_bytes s x y
  unfolding same_bytes
  bytes_differ i = pick_false _ _ _ (sym e ∙ i) refl

-- ---- eleven bytes as four, four and three

halves : (p m q n : ℕ) → m < 4294967296 → n < 4294967296 → 4294967296 * p + m ≡ 4294967296 * q + n → (p ≡ q) × (m ≡ n)
halves p m q n hm hn e = (omega arith, omega arith)

byte_here : (s : List ℕ) (i j : ℕ) → i ≡ j → byte s i ≡ byte s j
byte_here s i j h = ap (λ (k : ℕ). byte s k) h

-- eight bytes from the third on: one, four, three
from_third : (s : List ℕ) (x : ℕ)
    → be64 s (x + 3) ≡ 72057594037927936 * byte s (x + 3) + 16777216 * be32 s (x + 4) + (65536 * byte s (x + 8) + 256 * byte s (x + 8 + 1) + byte s (x + 8 + 2))
from_third s x =
    omega (
      arith,
      byte_here s (x + 3 + 1) (x + 4) (omega arith),
      byte_here s (x + 3 + 2) (x + 4 + 1) (omega arith),
      byte_here s (x + 3 + 3) (x + 4 + 2) (omega arith),
      byte_here s (x + 3 + 4) (x + 4 + 3) (omega arith),
      byte_here s (x + 3 + 4 + 1) (x + 8) (omega arith),
      byte_here s (x + 3 + 4 + 2) (x + 8 + 1) (omega arith),
      byte_here s (x + 3 + 4 + 3) (x + 8 + 2) (omega arith),
    )

-- two numbers and the same two with as much added to both
shifted : (a b t u k : ℕ) → a ≡ k + t → b ≡ k + u → eqb t u ≡ eqb a b
shifted a b t u k ea eb = elim (ℕ_discrete t u) [
  | yes e ↦ eq-eqb t u e ∙ sym (eq-eqb a b (omega arith))
  | no h ↦ ne_eqb t u h ∙ sym (ne_eqb a b (λ i. h (omega arith)))
]

module _ (s : List ℕ) (x y p q m n : ℕ) (ep : p ≡ be32 s x) (eq : q ≡ be32 s y) (em : m ≡ be32 s (x + 4)) (en : n ≡ be32 s (y + 4))
    (hm : m < 4294967296) (hn : n < 4294967296) where
  apart : be64 s x ≡ be64 s y → (p ≡ q) × (m ≡ n)
  apart e = halves p m q n hm hn (rw (ep, eq, em, en) e)

  pub fours_differ : (p ≡ q → ⊥) → false ≡ same_head s x y
  unfolding same_head
  fours_differ h = eq_no (be64 s x) (be64 s y) _ _ (λ e. h (apart e).0) refl

  pub next_differ : (m ≡ n → ⊥) → false ≡ same_head s x y
  unfolding same_head
  next_differ h = eq_no (be64 s x) (be64 s y) _ _ (λ e. h (apart e).1) refl

  pub threes_tell : (t u : ℕ) → p ≡ q → m ≡ n → byte s (x + 3) < 256 → byte s (y + 3) < 256
      → t ≡ 65536 * byte s (x + 8) + 256 * byte s (x + 8 + 1) + byte s (x + 8 + 2) → u ≡ 65536 * byte s (y + 8) + 256 * byte s (y + 8 + 1) + byte s (y + 8 + 2)
      → eqb t u ≡ same_head s x y
  unfolding same_head
  threes_tell t u i j hx hy et eu =
      let b : byte s (x + 3) ≡ byte s (y + 3) = omega arith in
      let k = 72057594037927936 * byte s (x + 3) + 16777216 * m in
      let ea : be64 s (x + 3) ≡ k + t = from_third s x ∙ rw (em, et) in
      let eb : be64 s (y + 3) ≡ k + u = from_third s y ∙ rw (b, j, en, eu) in
      eq_yes (be64 s x) (be64 s y) _ _ (rw (← ep, ← eq, ← em, ← en, i, j)) (shifted (be64 s (x + 3)) (be64 s (y + 3)) t u k ea eb)
