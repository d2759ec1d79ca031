-- What a function of the crate leaves on each way out, in the words of its tests and calls.
use Rattle.std.specs.Prelude.{ℕ, ◌+◌, ◌-◌, ◌<◌, ◌≤◌, ◌%◌, ◌≡◌, List, get_or, set}
use Rattle.std.proofs.Math.Path.{refl}
use Rattle.words.specs.Choose.{eq_yes, eq_no, lt_yes, lt_no}
use Rattle.wire_tables.specs.Tables.{far, joined, smaller}

module _ (ws : List ℕ) (a : ℕ) where
  pub far_none : (v : ℕ) → v ≡ get_or ws a 0 → v ≡ 0 → a ≡ far ws a
  unfolding far
  far_none v e z = rw (← e) (eq_yes _ _ _ _ z refl)

  pub far_some : (v : ℕ) → v ≡ get_or ws a 0 → (v ≡ 0 → ⊥) → (v - 1) % 65536 ≡ far ws a
  unfolding far
  far_some v e z = rw (← e) (eq_no _ _ _ _ z refl)

  pub smaller_far : (b : ℕ) → b ≡ far ws a → b < a → b ≡ smaller ws a
  unfolding smaller
  smaller_far b e h = rw (← e) (lt_yes _ _ _ _ h refl)

  pub smaller_own : (b : ℕ) → b ≡ far ws a → a ≤ b → a ≡ smaller ws a
  unfolding smaller
  smaller_own b e h = rw (← e) (lt_no _ _ _ _ h refl)

module _ (ws : List ℕ) (x y : ℕ) where
  pub joined_same : x ≡ y → ws ≡ joined ws x y
  unfolding joined
  joined_same h = eq_yes _ _ _ _ h refl

  pub joined_ends : (w v : List ℕ) → (x ≡ y → ⊥) → w ≡ set ws x (y + 1) → v ≡ set w y (x + 1) → v ≡ joined ws x y
  unfolding joined
  joined_ends w v h ew ev = eq_no _ _ _ _ h (rw (ev, ew))
