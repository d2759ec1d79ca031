-- What `insert` leaves in the array: the entries before p as they were, then the new one, then the others, one place further on.
use Rattle.std.specs.Prelude.{ℕ, zero, suc, ◌+◌, ◌-◌, ◌<◌, ◌≤◌, ◌≡◌, refl, List, get_or, set}
use Rattle.std.proofs.Math.Path.{sym, ap}
use Rattle.std.proofs.Common.{◌∙◌, arith, get_or-set_same, get_or-set_other}
use Rattle.std.proofs.Math.Decide.{ℕ_discrete}
use Rattle.std.proofs.Math.ListN.{length, length-set}
use Rattle.words.specs.Choose.{lt_yes, lt_no}
use Rattle.repeats.specs.Repeats.{shift, insert}

pub length_shift : (k p : ℕ) (l : List ℕ) → length (shift l p k) ≡ length l
unfolding shift
length_shift zero p l = refl
length_shift (suc k) p l = length_shift k p (set l (p + suc k) (get_or l (p + k) 0)) ∙ simp length-set

shift_low : (k p j : ℕ) (l : List ℕ) → j ≤ p → get_or (shift l p k) j 0 ≡ get_or l j 0
unfolding shift
shift_low zero p j l h = refl
shift_low (suc k) p j l h =
    let w = set l (p + suc k) (get_or l (p + k) 0) in
    shift_low k p j w h ∙ get_or-set_other l (p + suc k) j (get_or l (p + k) 0) 0 (omega arith)

shift_high : (k p j : ℕ) (l : List ℕ) → p + k < j → get_or (shift l p k) j 0 ≡ get_or l j 0
unfolding shift
shift_high zero p j l h = refl
shift_high (suc k) p j l h =
    let w = set l (p + suc k) (get_or l (p + k) 0) in
    shift_high k p j w (omega arith) ∙ get_or-set_other l (p + suc k) j (get_or l (p + k) 0) 0 (omega arith)

shift_mid : (k p j : ℕ) (l : List ℕ) → p ≤ j → j < p + k → p + k < length l → get_or (shift l p k) (suc j) 0 ≡ get_or l j 0
unfolding shift
shift_mid zero p j l h i r = absurd (omega arith)
shift_mid (suc k) p j l h i r =
    let w = set l (p + suc k) (get_or l (p + k) 0) in
    elim (ℕ_discrete j (p + k)) [
      | yes e ↦
          let g : suc j ≡ p + suc k = omega arith in
          shift_high k p (suc j) w (omega arith) ∙ rw (g, get_or-set_same l (p + suc k) (get_or l (p + k) 0) 0 r, e)
      | no n ↦
          shift_mid k p j w h (omega arith) (rw length-set (omega arith)) ∙ get_or-set_other l (p + suc k) j (get_or l (p + k) 0) 0 (omega arith)
    ]

-- ---- the array with one more

module _ (l : List ℕ) (m p at : ℕ) (h : m < length l) (i : p ≤ m) where
  moved : List ℕ
  moved = shift l p (m - p)

  is : insert l m p at ≡ set moved p at
  unfolding insert moved
  is = sym (lt_yes _ _ _ _ h (lt_no _ _ _ _ i refl))

  pub length_insert : length (insert l m p at) ≡ length l
  unfolding moved
  length_insert = ap length is ∙ simp length-set (length_shift (m - p) p l)

  pub insert_low : (j : ℕ) → j < p → get_or (insert l m p at) j 0 ≡ get_or l j 0
  unfolding moved
  insert_low j r = rw is (get_or-set_other moved p j at 0 (omega arith) ∙ shift_low (m - p) p j l (omega arith))

  pub insert_at : get_or (insert l m p at) p 0 ≡ at
  unfolding moved
  insert_at = rw is (get_or-set_same moved p at 0 (rw length_shift (omega arith)))

  pub insert_high : (j : ℕ) → p ≤ j → j < m → get_or (insert l m p at) (suc j) 0 ≡ get_or l j 0
  unfolding moved
  insert_high j r t = rw is (get_or-set_other moved p (suc j) at 0 (omega arith) ∙ shift_mid (m - p) p j l r (omega arith) (omega arith))
