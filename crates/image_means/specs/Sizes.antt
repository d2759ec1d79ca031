-- A list's capacity, in a pool of at most 4,096 nodes, is 0 or one of 4, 8 .. 16,384.
use Rattle.std.specs.Prelude.{ℕ, zero, suc, ◌+◌, ◌*◌, ◌-◌, ◌%◌, ◌<◌, ◌≤◌, ◌≡◌, refl, ◌≢◌, ◌⊎◌, true, false, ltb}
use Rattle.std.proofs.Common.{sym, ap, ◌∙◌, subst, inl, inr, mul_assoc, arith, lt-ltb}
use Rattle.std.proofs.Math.Nat.{mul-mod_left}
use Rattle.words.specs.Choose.{if_lt, lt_no}
use Rattle.marks.specs.Tests.{same, most}
use Rattle.dirty_laws.specs.Listed.{Capacity, nought, four, twice}
use Rattle.image_lists.specs.Lists.{sizes_hold}
use Rattle.image_means.specs.Yes.{same_yes, most_yes}

-- doubled b times
abbrev doubled : ℕ → ℕ → ℕ
doubled zero c = c
doubled (suc b) c = doubled b (2 * c)

abbrev Fits : ℕ → Type 0
Fits c = (c ≡ 0) ⊎ ((b : ℕ) × (4 ≤ c) × (doubled b c ≡ 16384))

capacity_fits : (c : ℕ) → Capacity c → c ≤ 16388 → Fits c
capacity_fits c nought l = inl refl
capacity_fits c four l = inr (12, omega arith, refl)
capacity_fits c (twice {c = d} k) l = go (capacity_fits d k (omega arith))
  where
    go : Fits d → Fits (2 * d)
    go (inl z) = inl (omega arith)
    go (inr (zero, h, e)) = absurd (omega arith)
    go (inr (suc b, h, e)) = inr (b, omega arith, e)

multiple : (b c : ℕ) → (q : ℕ) × (doubled b c ≡ q * c)
multiple zero c = (1, omega arith)
multiple (suc b) c = let m = multiple b (2 * c) in (m.0 * 2, m.1 ∙ sym (mul_assoc m.0 2 c))

-- `sizes-hold` answers yes
pub sizes_pass : (length capacity stale : ℕ) → Capacity capacity → capacity ≤ 16388 → capacity ≢ 0 → length ≤ capacity → 2 * stale ≤ capacity - 1
    → sizes_hold length capacity stale ≡ true
unfolding sizes_hold
sizes_pass length capacity stale c b z l h = go (capacity_fits capacity c b)
  where
    go : Fits capacity → if_lt capacity 4 false (same (16384 % capacity) 0 (most length capacity (ltb (2 * stale) capacity))) ≡ true
    go (inl e) = absurd (z e)
    go (inr (k, f, e)) =
        let q = multiple k capacity in
        let m : 16384 % capacity ≡ 0 = ap (λ n. n % capacity) (sym e ∙ q.1) ∙ mul-mod_left q.0 capacity in
        sym (lt_no capacity 4 _ _ f (sym (same_yes _ _ _ m (most_yes _ _ _ l (lt-ltb (2 * stale) capacity (omega arith))))))
