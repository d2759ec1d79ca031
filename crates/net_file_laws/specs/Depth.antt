-- The depth that a tree's reader counts down is document 01's: a wire is 0, a node one more than its deepest child, 1 if childless.
use Rattle.std.specs.Prelude.{ℕ, zero, suc, max, ◌<◌, ◌≤◌, ◌↔◌, length}
use Rattle.std.proofs.Common.{arith}
use Rattle.net_file.specs.Values.{Tree, wire, node, Trees, none, more, listed}
use Rattle.net_file_laws.specs.Exact.{Each}
use Rattle.net_file_laws.specs.Parts.{NameFits}
use Rattle.net_file_laws.specs.Trees.{TreeFits}

unfoldable mutual
  pub depth : Tree → ℕ
  depth (wire w) = 0
  depth (node m ts) = suc (deepest ts)

  pub deepest : Trees → ℕ
  deepest none = 0
  deepest (more t ts) = max (depth t) (deepest ts)

module _ (paths names wires : ℕ) where
  -- names and wires in range, at most 15 children a node
  unfoldable mutual
    pub InRange : Tree → Type 0
    InRange (wire w) = w < wires
    InRange (node m ts) = NameFits paths names m × (length (listed ts) ≤ 15) × InRanges ts

    pub InRanges : Trees → Type 0
    InRanges none = Unit {0}
    InRanges (more t ts) = InRange t × InRanges ts

  mutual
    unfolding TreeFits depth InRange

    shallow : (t : Tree) (d : ℕ) → TreeFits paths names wires d t → (depth t ≤ d) × InRange t
    shallow (wire w) zero h = (omega arith, h)
    shallow (wire w) (suc d) h = (omega arith, h)
    shallow (node m ts) zero h = absurd h
    shallow (node m ts) (suc d) h = let i = shallows ts d h.2 in (omega (arith, i.0), (h.0, h.1, i.1))

    shallows : (ts : Trees) (d : ℕ) → Each (TreeFits paths names wires d) (listed ts) → (deepest ts ≤ d) × InRanges ts
    shallows none d h = (omega arith, tt)
    shallows (more t ts) d h = let i = shallow t d h.0 in let j = shallows ts d h.1 in (omega (arith, i.0, j.0), (i.1, j.1))

  mutual
    unfolding TreeFits depth InRange

    within : (t : Tree) (d : ℕ) → depth t ≤ d → InRange t → TreeFits paths names wires d t
    within (wire w) zero l h = h
    within (wire w) (suc d) l h = h
    within (node m ts) zero l h = absurd (omega arith)
    within (node m ts) (suc d) l h = (h.0, h.1, withins ts d (omega arith) h.2)

    withins : (ts : Trees) (d : ℕ) → deepest ts ≤ d → InRanges ts → Each (TreeFits paths names wires d) (listed ts)
    withins none d l h = tt
    withins (more t ts) d l h = (within t d (omega arith) h.0, withins ts d (omega arith) h.1)

  pub fits_depth : (d : ℕ) (t : Tree) → TreeFits paths names wires d t ↔ ((depth t ≤ d) × InRange t)
  fits_depth d t = (shallow t d, λ h. within t d h.0 h.1)
