-- The start of a list made 0.
use Rattle.std.specs.Prelude.{ℕ, zero, suc, List, [], ◌∷◌}

-- the first k numbers made 0, or all where there are fewer; the others are kept
unfoldable pub zeroed : ℕ → List ℕ → List ℕ
zeroed zero xs = xs
zeroed (suc k) [] = []
zeroed (suc k) (x ∷ xs) = 0 ∷ zeroed k xs
