-- The grid of commute: row i holds the aux ports of the i-th copy of b, by number.
use Rattle.std.specs.Prelude.{ℕ, zero, suc, ◌+◌, ◌<◌, ◌≡◌, List, [], length, get_or, set, replicate}
use Rattle.std.proofs.Common.{◌∙◌, length-set, get_or-set_same, get_or-set_other, arith}
use Rattle.std.proofs.lemmas.List.{length-replicate}
use Rattle.std.proofs.Math.Decide.{ℕ_discrete}
use Rattle.layout.specs.Layout.{next, principal}
use Rattle.commute.specs.Commute.{ports, row, blank, cell}
use Rattle.definitions.specs.Nets.{port}
use Rattle.means.specs.Means.{number}

-- k ports from p on are p, p + 1 ..
ports_at : (k p j : ℕ) → p + k < 4294967296 → j < k → get_or (ports p k) j 0 ≡ p + j
unfolding ports
ports_at zero p j b h = absurd (omega arith)
ports_at (suc k) p zero b h = omega arith
ports_at (suc k) p (suc j) b h =
    let n : next p + j ≡ p + suc j = omega arith in
    ports_at k (next p) j (omega arith) (omega arith) ∙ n

-- the row of the copy in slot n
pub row_at : (n j : ℕ) → n < 4096 → j < 15 → get_or (row (next (principal n))) j 0 ≡ number (port n (1 + j))
unfolding row
row_at n j l h = ports_at 15 (next (principal n)) j (omega arith) h ∙ (omega arith)

-- the first i rows are there
pub record Rows (N : ℕ → ℕ) (grid : List (List ℕ)) (i : ℕ) : Type 0 where
  pub long : length grid ≡ 15
  pub at : (r j : ℕ) → r < i → j < 15 → cell grid r j ≡ number (port (N r) (1 + j))

pub rows_none : (N : ℕ → ℕ) → Rows N blank 0
unfolding blank
rows_none N = record { long = length-replicate 15 (replicate {A = ℕ} 15 0); at = λ r j h k. absurd (omega arith) }

-- one more row
pub rows_more : (N : ℕ → ℕ) (grid : List (List ℕ)) (i : ℕ) → i < 15 → N i < 4096 → Rows N grid i → Rows N (set grid i (row (next (principal (N i))))) (suc i)
rows_more N grid i low small s = record {
  long = length-set grid i (row (next (principal (N i)))) ∙ s.long;
  at = λ r j h k. go r j h k (ℕ_discrete r i);
}
  where
    new : List ℕ
    new = row (next (principal (N i)))

    go : (r j : ℕ) → r < suc i → j < 15 → Dec (r ≡ i) → cell (set grid i (row (next (principal (N i))))) r j ≡ number (port (N r) (1 + j))
    go r j h k (yes e) = let l = s.long in rw (e, get_or-set_same grid i new [] (omega arith)) (row_at (N i) j small k)
    go r j h k (no e) = rw (get_or-set_other grid i r new [] e) (s.at r j (omega arith) k)
