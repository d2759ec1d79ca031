-- Chains of tests, each of which may refuse: what an image's conditions are made of. Level Words.
use Rattle.std.specs.Prelude.{ℕ, zero, suc, Bool, true, false}
use Rattle.words.specs.Choose.{if_eq, if_lt, pick}
use Rattle.layout.specs.Layout.{next}

-- m is n, and the rest
abbrev pub same : ℕ → ℕ → Bool → Bool
same m n rest = if_eq m n rest false

-- m is not n, and the rest
abbrev pub other : ℕ → ℕ → Bool → Bool
other m n rest = if_eq m n false rest

-- m is below n, and the rest
abbrev pub below : ℕ → ℕ → Bool → Bool
below m n rest = if_lt m n rest false

-- m is at most n, and the rest
abbrev pub most : ℕ → ℕ → Bool → Bool
most m n rest = if_lt n m false rest

-- a test, and the rest
abbrev pub given : Bool → Bool → Bool
given t rest = pick t rest false

-- k numbers from i on pass a test
unfoldable pub each : (ℕ → Bool) → ℕ → ℕ → Bool
each test i zero = true
each test i (suc k) = given (test i) (each test (next i) k)
