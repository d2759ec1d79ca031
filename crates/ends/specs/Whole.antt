-- A node that stands in the file as a whole, from its name to its last wire.
use Rattle.std.specs.Prelude.{ℕ, ◌+◌, ◌*◌, ◌-◌, ◌<◌, ◌≤◌, ◌≡◌, List, length}
use Rattle.std.proofs.Math.Path.{refl}
use Rattle.std.proofs.Common.{◌∙◌}
use Rattle.std.proofs.Math.Logic.{inl, inr}
use native.Mathlib.Omega.{arith}
use Rattle.words.specs.Choose.{if_lt, lt_yes, lt_no, lt_cases}
use Rattle.fields.specs.Fields.{byte}
use Rattle.stored.specs.Stored.{list_end, name_end, node_end}
use Rattle.ends.specs.Ends.{name_past, node_past}

-- where the node's name ends; 0 where the node does not stand in the file as a whole
unfoldable pub whole_node : List ℕ → ℕ → ℕ
whole_node s at = if_lt (length s) (node_end s at) 0 (name_end s at)

module _ (s : List ℕ) (at : ℕ) where
  cut : length s < node_end s at → 0 ≡ whole_node s at
  unfolding whole_node
  cut h = lt_yes _ _ _ _ h refl

  pub whole_small : length s < 14 → 0 ≡ whole_node s at
  whole_small h = cut (omega (arith, name_past s at, node_past s at))

  pub whole_past : 14 ≤ length s → length s - 14 < at → 0 ≡ whole_node s at
  whole_past l h = cut (omega (arith, name_past s at, node_past s at))

  module _ (b e : ℕ) (eb : b ≡ byte s (at + 10)) (ee : e ≡ at + 11 + 2 * b) where
    name_ends : e ≡ name_end s at
    unfolding name_end list_end
    name_ends = omega arith

    pub whole_name : 14 ≤ length s → length s - 3 < e → 0 ≡ whole_node s at
    whole_name l h = cut (omega (arith, name_ends, node_past s at))

    module _ (k : ℕ) (ek : k ≡ byte s (e + 2)) (l : 14 ≤ length s) (h : e ≤ length s - 3) where
      wires_end_at : node_end s at ≡ e + 3 + 2 * k
      unfolding node_end list_end
      wires_end_at = rw (← name_ends, ek) (omega arith)

      pub whole_wires : length s - 3 - e < 2 * k → 0 ≡ whole_node s at
      whole_wires i = cut (omega (arith, wires_end_at))

      pub whole_there : 2 * k ≤ length s - 3 - e → e ≡ whole_node s at
      unfolding whole_node
      whole_there i = lt_no _ _ _ _ (omega (arith, wires_end_at)) name_ends

  -- what is known of a node that stands there as a whole
  module _ (e : ℕ) (ee : e ≡ whole_node s at) (h : e ≡ 0 → ⊥) where
    pub whole_is : (e ≡ name_end s at) × (node_end s at ≤ length s)
    unfolding whole_node
    whole_is = elim (lt_cases (length s) (node_end s at) 0 (name_end s at)) [
      | inl i ↦ absurd (h (ee ∙ i.1))
      | inr i ↦ (ee ∙ i.1, i.0)
    ]
