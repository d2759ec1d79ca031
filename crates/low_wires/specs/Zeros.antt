-- A scratch that was made zeros.
use Rattle.std.specs.Prelude.{ℕ, zero, suc, ◌<◌, ◌≡◌, refl, List, [], ◌∷◌, length, get_or}
use Rattle.std.proofs.Common.{ap, arith}
use Rattle.clear.specs.Zeroed.{zeroed}

pub zeroed_length : (k : ℕ) (ws : List ℕ) → length (zeroed k ws) ≡ length ws
unfolding zeroed
zeroed_length zero ws = refl
zeroed_length (suc k) [] = refl
zeroed_length (suc k) (x ∷ ws) = ap suc (zeroed_length k ws)

pub zeroed_get : (k : ℕ) (ws : List ℕ) (i : ℕ) → i < k → get_or (zeroed k ws) i 0 ≡ 0
unfolding zeroed
zeroed_get zero ws i h = absurd (omega arith)
zeroed_get (suc k) [] i h = refl
zeroed_get (suc k) (x ∷ ws) zero h = refl
zeroed_get (suc k) (x ∷ ws) (suc i) h = zeroed_get k ws i (omega arith)
