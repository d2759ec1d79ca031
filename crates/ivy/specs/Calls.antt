-- The pools of a call.
use Rattle.std.specs.Prelude.{ℕ}
use Rattle.lent.specs.declared.Pools.{Pools}

-- N, E and W as a call is given them
abbrev pub pools : ℕ → ℕ → ℕ → Pools
pools n e w = record { nodes = n; entries = e; waits = w }
