-- What every writer does: it puts bytes into a slice from a place on, all of them or none.
-- Document 01: a refusal "writes no output; a result leaves the output bytes past its end unchanged".
use Rattle.std.specs.Prelude.{ℕ, Option, Some, None, ◌+◌, ◌≤◌, Bool, true, false, ◌≡◌, List, ◌++◌, length, take, drop, leb}
use Rattle.net_file.specs.Lists.{concat_map}
use Rattle.net_file.specs.Write.{be}

unfoldable pub pick : {A : Type 0} → Bool → A → A → A
pick true a b = a
pick false a b = b

-- a if the bytes fit into the slice from the place on, else b
unfoldable pub if_fits : {A : Type 0} → List ℕ → ℕ → List ℕ → A → A → A
if_fits out at bs a b = pick (leb (at + length bs) (length out)) a b

-- the place after the bytes
unfoldable pub put_at : List ℕ → ℕ → List ℕ → Option ℕ
put_at out at bs = if_fits out at bs (Some (at + length bs)) None

-- the slice with the bytes in it; what stands before and after them is kept
unfoldable pub put_in : List ℕ → ℕ → List ℕ → List ℕ
put_in out at bs = if_fits out at bs (take at out ++ bs ++ drop (at + length bs) out) out

pub record Written (bs : List ℕ) (at : ℕ) (before after : List ℕ) (r : Option ℕ) : Type 0 where
  pub is : r ≡ put_at before at bs
  pub out : after ≡ put_in before at bs

-- the same where the bytes may be written at all; where not, the answer is None too
pub record WrittenIf (may : Type 0) (bs : List ℕ) (at : ℕ) (before after : List ℕ) (r : Option ℕ) : Type 0 where
  pub yes : may → Written bs at before after r
  pub no : (may → ⊥) → (r ≡ None) × (after ≡ before)

-- a count of one byte can say how many these are
abbrev pub Short : List ℕ → Type 0
Short ns = length ns ≤ 255

-- n bytes of a slice from a place on
unfoldable pub part : List ℕ → ℕ → ℕ → List ℕ
part s from n = take n (drop from s)

-- each number in two bytes
unfoldable pub numbers : List ℕ → List ℕ
numbers ns = concat_map (be 2) ns
