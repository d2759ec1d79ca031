-- Which wires are one wire: `WireLinks` of net.rs, a table from a wire to the one it is linked with.
use Rattle.std.specs.Prelude.{ℕ, zero, suc, min, Bool, true, false, List, [], ◌∷◌, ◌++◌, eqb, ltb}
use Rattle.std.proofs.Math.Option.{Option, none, some}
use Rattle.net_file.specs.Lists.{concat_map}

abbrev pub Links : Type 0
Links = List (ℕ × ℕ)

-- what stands beside a, if anything
unfoldable pub get : {A : Type 0} → List (ℕ × A) → ℕ → Option A
get [] a = none
get (e ∷ es) a = elim (eqb e.0 a) [ true ↦ some e.1 | false ↦ get es a ]

-- the table without a
unfoldable pub remove : {A : Type 0} → List (ℕ × A) → ℕ → List (ℕ × A)
remove [] a = []
remove (e ∷ es) a = elim (eqb e.0 a) [ true ↦ remove es a | false ↦ e ∷ remove es a ]

-- with x beside a
unfoldable pub insert : {A : Type 0} → List (ℕ × A) → ℕ → A → List (ℕ × A)
insert es a x = remove es a ++ ((a, x) ∷ [])

unfoldable pub or_else : {A : Type 0} → Option A → A → A
or_else none d = d
or_else (some x) d = x

-- a and b are one wire: the far ends of what they were linked with become so
unfoldable pub link : Links → ℕ → ℕ → Links
link l a b =
    let a' = or_else (get l a) a in
    let l₁ = remove l a in
    let b' = or_else (get l₁ b) b in
    let l₂ = remove l₁ b in
    elim (eqb a' b') [ true ↦ l₂ | false ↦ insert (insert l₂ a' b') b' a' ]

-- the smaller of a wire and what it is linked with (`canonicalize_ref`)
unfoldable pub canonical : Links → ℕ → ℕ
canonical l a = elim (get l a) [ none ↦ a | some b ↦ min a b ]

-- the links of pairs, both ways
unfoldable pub links_of : List (ℕ × ℕ) → Links
links_of ps = concat_map (λ p. (p.0, p.1) ∷ (p.1, p.0) ∷ []) ps

-- 0, 1 .. n - 1, each plus k
unfoldable pub from : ℕ → ℕ → List ℕ
from k zero = []
from k (suc n) = k ∷ from (suc k) n

-- the pairs of links below a counter: the smaller wire first, ascending by it
unfoldable pub pairs_of : Links → ℕ → List (ℕ × ℕ)
pairs_of l n = concat_map one (from 0 n)
  where
    one : ℕ → List (ℕ × ℕ)
    one a = elim (get l a) [ none ↦ [] | some b ↦ elim (ltb a b) [ true ↦ (a, b) ∷ [] | false ↦ [] ] ]
