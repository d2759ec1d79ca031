-- Tests that pass: each test of an image says yes where its condition holds and the rest does.
use Rattle.std.specs.Prelude.{ℕ, zero, suc, ◌+◌, ◌<◌, ◌≤◌, ◌≡◌, refl, Bool, true, false, List}
use Rattle.std.proofs.Common.{sym, subst, arith}
use Rattle.words.specs.Choose.{pick, pick_true, eq_yes, eq_no, lt_yes, lt_no}
use Rattle.words.specs.Left.{Left}
use Rattle.layout.specs.Layout.{next}
use Rattle.marks.specs.Tests.{same, other, below, most, given, each}
use Rattle.marks.specs.Walks.{each_with}

pub same_yes : (m n : ℕ) (r : Bool) → m ≡ n → r ≡ true → same m n r ≡ true
same_yes m n r h e = sym (eq_yes m n r false h (sym e))

pub other_yes : (m n : ℕ) (r : Bool) → (m ≡ n → ⊥) → r ≡ true → other m n r ≡ true
other_yes m n r h e = sym (eq_no m n false r h (sym e))

pub below_yes : (m n : ℕ) (r : Bool) → m < n → r ≡ true → below m n r ≡ true
below_yes m n r h e = sym (lt_yes m n r false h (sym e))

pub most_yes : (m n : ℕ) (r : Bool) → m ≤ n → r ≡ true → most m n r ≡ true
most_yes m n r h e = sym (lt_no n m false r h (sym e))

pub given_yes : (t r : Bool) → t ≡ true → r ≡ true → given t r ≡ true
given_yes t r h e = sym (pick_true t r false h (sym e))

-- k numbers from i on, where each of them passes
pub each_yes : (test : ℕ → Bool) (i k : ℕ) → i + k < 4294967296 → ((j : ℕ) → i ≤ j → j < i + k → test j ≡ true) → each test i k ≡ true
unfolding each
each_yes test i zero b h = refl
each_yes test i (suc k) b h =
    let n : next i ≡ i + 1 = omega arith in
    given_yes (test i) (each test (next i) k) (h i (omega arith) (omega arith))
    (each_yes test (next i) k (omega arith) (λ j l u. h j (omega arith) (omega arith)))

-- k numbers from i on, where each passes and keeps what is known of the marks
pub each_with_yes : (test : List ℕ → ℕ → Left Bool) (P : ℕ → List ℕ → Type 0) (top : ℕ) → top < 4294967296
    → ((i : ℕ) (marks : List ℕ) → i < top → P i marks → ((test marks i).is ≡ true) × P (suc i) (test marks i).ws)
    → (k i : ℕ) (marks : List ℕ) → i + k ≡ top → P i marks → ((each_with test marks i k).is ≡ true) × P top (each_with test marks i k).ws
unfolding each_with
each_with_yes test P top b step zero i marks e h = (refl, subst (λ (j : ℕ). P j marks) (omega arith) h)
each_with_yes test P top b step (suc k) i marks e h =
    let s = step i marks (omega arith) h in
    let n : next i ≡ suc i = omega arith in
    subst (λ (r : Left Bool). (r.is ≡ true) × P top r.ws) (rw n (pick_true _ _ _ s.0 refl))
    (each_with_yes test P top b step k (suc i) (test marks i).ws (omega arith) s.1)
