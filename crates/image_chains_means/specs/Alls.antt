-- A fact of every place of a list.
use Rattle.std.specs.Prelude.{ℕ, ◌≡◌, ◌⊎◌}
use Rattle.std.proofs.Common.{sym, subst, inl, inr}
use mathlib.Core.List.Memᴰ
use mathlib.Core.List.{List, [], ◌∷◌, Memᴰ}
use Rattle.chains.specs.Seg.{All}

pub all_of : {P : ℕ → Type 0} → ((c : ℕ) → P c) → (l : List ℕ) → All P l
all_of f [] = tt
all_of f (c ∷ l) = (f c, all_of f l)

pub all_mem : (P : ℕ → Type 0) (l : List ℕ) → All P l → (c : ℕ) → Memᴰ c l → P c
all_mem P [] a c m = absurd (Memᴰ.not-nil m)
all_mem P (d ∷ l) a c m = go (Memᴰ.cases_cons m) (all_mem P l a.1 c)
  where
    go : (c ≡ d) ⊎ Memᴰ c l → (Memᴰ c l → P c) → P c
    go (inl e) ih = subst P (sym e) a.0
    go (inr q) ih = ih q
