-- Parts that stand one after another, taken along a file: a place past the end is the end.
use Prim.Native.Nat.{ℕ, zero, suc, ◌-◌, ◌<◌, ◌≤◌}
use Rattle.std.specs.Prelude.{◌≡◌, List, [], ◌++◌, length}
use Rattle.std.proofs.Math.Path.{refl}
use Rattle.std.proofs.Common.{ap, not-suc-le-zero}
use native.Mathlib.Omega.{arith}
use Rattle.net_file.specs.Lists.{concat_map}
use Rattle.stored.specs.Stored.{table_at, table_end}
use Rattle.ends.specs.Ends.{within, table_up}

-- what is written of k parts, each where the last ended
unfoldable pub along : {A : Type 0} → List ℕ → (ℕ → List A) → (ℕ → ℕ) → ℕ → ℕ → List A
along s one end at zero = []
along s one end at (suc k) = one at ++ along s one end (within s (end at)) k

module _ {A : Type 0} (s : List ℕ) (one : ℕ → List A) (end : ℕ → ℕ) where
  pub along_next : (at a k : ℕ) → 0 < k → a ≡ within s (end at) → along s one end at k ≡ one at ++ along s one end a (k - 1)
  unfolding along
  along_next at a zero h e = absurd (not-suc-le-zero h)
  along_next at a (suc k) h e = let l : suc k - 1 ≡ k = omega arith in rw (l, e)

  pub along_none : (at k : ℕ) → k ≤ 0 → along s one end at k ≡ []
  unfolding along
  along_none at zero h = refl
  along_none at (suc k) h = absurd (not-suc-le-zero h)

-- where all are inside, they are the parts that stand there
pub along_inside : {A B : Type 0} (s : List ℕ) (f : A → List B) (part : ℕ → A) (end : ℕ → ℕ) → ((at : ℕ) → at ≤ end at) → (at k : ℕ) → table_end end at k ≤ length s
    → along s (λ a. f (part a)) end at k ≡ concat_map f (table_at part end at k)
unfolding along table_at table_end
along_inside s f part end up at zero h = refl
along_inside s f part end up at (suc k) h =
    let e : within s (end at) ≡ end at = omega (arith, table_up end up (end at) k) in
    rw e (ap (λ t. f (part at) ++ t) (along_inside s f part end up (end at) k h))
