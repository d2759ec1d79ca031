-- The k-th of a table, and the place of the k-th: one law for every table of a file.
use Rattle.std.specs.Prelude.{ℕ, zero, suc, ◌+◌, ◌*◌, ◌<◌, ◌≤◌, ◌≡◌, refl, List, [], length, get_or}
use Rattle.std.proofs.Common.{sym, ◌∙◌, arith, add-one}
use Rattle.std.proofs.Math.Path.{ap}
use Rattle.std.proofs.Math.Decide.{dec_lt}
use Rattle.fields.specs.Fields.{byte, be16, byte_past}
use Rattle.stored.specs.Stored.{table_at, table_end, numbers_at, list_at, bytes_at, path_at, pair_at, pairs_at}
use Rattle.stored.specs.Laws.{table_length, table_steps}
use Rattle.ends.specs.Ends.{within, table_up}
use Rattle.readers.specs.Places.{end_within}

pub table_get : {A : Type 0} (one : ℕ → A) (end : ℕ → ℕ) (at n k : ℕ) (d : A) → k < n → get_or (table_at one end at n) k d ≡ one (table_end end at k)
unfolding table_at table_end
table_get one end at zero k d h = absurd (omega arith)
table_get one end at (suc n) zero d h = refl
table_get one end at (suc n) (suc k) d h = table_get one end (end at) n k d (omega arith)

-- the place of the k-th is no later than the table's end
pub table_inside : (end : ℕ → ℕ) → ((at : ℕ) → at ≤ end at) → (at n k : ℕ) → k ≤ n → table_end end at k ≤ table_end end at n
unfolding table_end
table_inside end up at n zero h = table_up end up at n
table_inside end up at zero (suc k) h = absurd (omega arith)
table_inside end up at (suc n) (suc k) h = table_inside end up (end at) n k (omega arith)

-- the k-th ends where the next begins
pub table_next : (end : ℕ → ℕ) (at k : ℕ) → table_end end at (suc k) ≡ end (table_end end at k)
unfolding table_end
table_next end at zero = refl
table_next end at (suc k) = table_next end (end at) k

module _ (s : List ℕ) where
  -- ---- lists of numbers of two bytes

  pub numbers_get : (at n j d : ℕ) → j < n → get_or (numbers_at s at n) j d ≡ be16 s (at + 2 * j)
  unfolding numbers_at
  numbers_get at n j d h = table_get (be16 s) (λ a. a + 2) at n j d h ∙ ap (be16 s) (table_steps s 2 at j)

  pub list_length : (at : ℕ) → length (list_at s at) ≡ byte s at
  unfolding list_at numbers_at
  list_length at = table_length s (be16 s) (λ a. a + 2) (at + 1) (byte s at)

  -- x is the place of the j-th, in whatever words
  pub list_get : (at j d x : ℕ) → j < byte s at → at + 1 + 2 * j ≡ x → get_or (list_at s at) j d ≡ be16 s x
  unfolding list_at
  list_get at j d x h e = numbers_get (at + 1) (byte s at) j d h ∙ ap (be16 s) e

  -- past the end there is no list but the empty one
  pub list_past : (at : ℕ) → length s ≤ at → list_at s at ≡ []
  unfolding list_at numbers_at table_at
  list_past at h = rw (byte_past s at h)

  pub list_clamped : (x a : ℕ) → a ≡ within s x → list_at s a ≡ list_at s x
  list_clamped x a e = elim (dec_lt (length s) x) [
    | yes l ↦ list_past a (omega arith) ∙ sym (list_past x (omega arith))
    | no l ↦ let d : a ≡ x = omega arith in ap (list_at s) d
  ]

  -- ---- paths and pairs

  pub path_get : (at j d : ℕ) → j < byte s at → get_or (path_at s at) j d ≡ byte s (at + (1 + j))
  unfolding path_at bytes_at
  path_get at j d h =
      let e : table_end (λ a. a + 1) (at + 1) j ≡ at + (1 + j) = omega (arith, table_steps s 1 (at + 1) j) in
      table_get (byte s) (λ a. a + 1) (at + 1) (byte s at) j d h ∙ ap (byte s) e

  pub pairs_length : (at n : ℕ) → length (pairs_at s at n) ≡ n
  unfolding pairs_at
  pairs_length at n = table_length s (pair_at s) (λ a. a + 4) at n

  pub pairs_get : (at n j : ℕ) (d : ℕ × ℕ) → j < n → get_or (pairs_at s at n) j d ≡ pair_at s (at + 4 * j)
  unfolding pairs_at
  pairs_get at n j d h = table_get (pair_at s) (λ a. a + 4) at n j d h ∙ ap (pair_at s) (table_steps s 4 at j)

-- the k-th of a table that ends inside s stands at its place, the clamp being none
pub table_read : {A : Type 0} (s : List ℕ) (one : ℕ → A) (end : ℕ → ℕ) → ((at : ℕ) → at ≤ end at) → (at n : ℕ) → table_end end at n ≤ length s
    → (k a : ℕ) (d : A) → k < n → a ≡ within s (table_end end at k) → get_or (table_at one end at n) k d ≡ one a
table_read s one end up at n l k a d h e =
    let i : table_end end at k ≡ a = omega (arith, table_inside end up at n k (omega arith)) in
    table_get one end at n k d h ∙ ap one i

-- from the place of the k-th to the place of the next, as a loop goes
pub table_step : (s : List ℕ) (end : ℕ → ℕ) → ((at : ℕ) → at ≤ end at) → (at k a b : ℕ) → a ≡ within s (table_end end at k) → b ≡ within s (end a)
    → b ≡ within s (table_end end at (k + 1))
table_step s end up at k a b e h = h ∙ rw (e, add-one, table_next end at k) (end_within end up s (table_end end at k))
