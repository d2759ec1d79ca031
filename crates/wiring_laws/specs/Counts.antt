-- Where the counts tell how often each wire occurs over places and pairs, up to 3, "every place seen twice, the two wires of
-- each pair seen alike" is document 01's "Well wired". Nothing here is about offsets.
-- A wire of a pair is seen once there, so that it is seen twice where it occurs in one place. Two wires that are seen alike
-- occur alike, unless both occur more than once: but then they are in places, and seen three times.
use Rattle.std.specs.Prelude.{ℕ, ◌+◌, ◌-◌, ◌<◌, ◌≤◌, min, ◌≡◌, true, ◌&&◌, ◌⊎◌, List, get_or}
use Rattle.std.proofs.Math.Bool.{or-true}
use Rattle.std.proofs.Math.Logic.{inl, inr}
use native.Mathlib.Omega.{arith}
use Rattle.std.proofs.Math.Decide.{dec_lt}
use Rattle.std.proofs.Math.Dec.{eqb}
use borrow.Author.Tests.{eqb-true, eq-eqb}
use Rattle.net_file.specs.Lists.{all, any}
use Rattle.net_file.specs.Checks.{pair_wires, occurs, pair_wired, wire_wired}
use Rattle.list_laws.specs.Tests.{same_test, both, both_are, either}
use Rattle.wiring.specs.Wiring.{twice, alike}
use Rattle.wiring_laws.specs.Members.{In, all_in, in_all, in_occurs, occurs_in, any_in, in_any, in_pair, pair_in}

-- ---- what the tests say

module _ (ws : List ℕ) (p : ℕ × ℕ) where
  -- both once, or neither
  abbrev pub Paired : Type 0
  Paired = ((occurs p.0 ws ≡ 1) × (occurs p.1 ws ≡ 1)) ⊎ ((occurs p.0 ws ≡ 0) × (occurs p.1 ws ≡ 0))

  pub pair_told : pair_wired ws p ≡ true → Paired
  unfolding pair_wired
  pair_told e = elim (either (eqb (occurs p.0 ws) 1 && eqb (occurs p.1 ws) 1) (eqb (occurs p.0 ws) 0 && eqb (occurs p.1 ws) 0) e) [
    | inl h ↦ let k = both (eqb (occurs p.0 ws) 1) (eqb (occurs p.1 ws) 1) h in inl (eqb-true _ 1 k.0, eqb-true _ 1 k.1)
    | inr h ↦ let k = both (eqb (occurs p.0 ws) 0) (eqb (occurs p.1 ws) 0) h in inr (eqb-true _ 0 k.0, eqb-true _ 0 k.1)
  ]

  pub tell_pair : Paired → pair_wired ws p ≡ true
  unfolding pair_wired
  tell_pair (inl h) = rw (h.0, h.1)
  tell_pair (inr h) = rw (h.0, h.1)

  pub paired_once : Paired → (w : ℕ) → (w ≡ p.0) ⊎ (w ≡ p.1) → occurs w ws ≤ 1
  paired_once (inl h) w (inl e) = rw (e, h.0) (omega arith)
  paired_once (inl h) w (inr e) = rw (e, h.1) (omega arith)
  paired_once (inr h) w (inl e) = rw (e, h.0) (omega arith)
  paired_once (inr h) w (inr e) = rw (e, h.1) (omega arith)

-- ---- counts that tell: ws are the places, ps the pairs, no wire is in two pairs

module _ (c : List ℕ) (base : ℕ) (ws : List ℕ) (ps : List (ℕ × ℕ)) (once : (w : ℕ) → occurs w (pair_wires ps) ≤ 1)
    (told : (w : ℕ) → get_or c w 0 - base ≡ min 3 (occurs w ws + occurs w (pair_wires ps))) where
  pub twice_told : (w : ℕ) → twice c base w ≡ true → occurs w ws + occurs w (pair_wires ps) ≡ 2
  unfolding twice
  twice_told w e = let h = eqb-true (get_or c w 0) (base + 2) e in omega (arith, told w)

  pub tell_twice : (w : ℕ) → occurs w ws + occurs w (pair_wires ps) ≡ 2 → twice c base w ≡ true
  unfolding twice
  tell_twice w e = eq-eqb (get_or c w 0) (base + 2) (omega (arith, told w))

  -- a wire of a pair is in that one alone
  pub in_one : (w : ℕ) → In w (pair_wires ps) → occurs w (pair_wires ps) ≡ 1
  in_one w i = omega (arith, once w, in_occurs w (pair_wires ps) i)

  -- ---- to the check

  module _ (a : all (pair_wired ws) ps ≡ true) (t : all (wire_wired ws ps) ws ≡ true) where
    pub is_alike : (p : ℕ × ℕ) → In p ps → alike c p ≡ true
    unfolding alike
    is_alike p i =
        let k = in_pair p ps i in
        let x = told p.0 in
        let y = told p.1 in
        let u = in_one p.0 k.0 in
        let v = in_one p.1 k.1 in
        eq-eqb (get_or c p.0 0) (get_or c p.1 0) (elim (pair_told ws p (all_in (pair_wired ws) p ps a i)) [ inl h ↦ omega arith | inr h ↦ omega arith ])

    -- a wire in no pair occurs twice
    pub alone : (w : ℕ) → In w ws → (0 < occurs w (pair_wires ps) → ⊥) → occurs w ws ≡ 2
    unfolding wire_wired
    alone w i n = elim (either (any (eqb w) (pair_wires ps)) (eqb (occurs w ws) 2) (all_in (wire_wired ws ps) w ws t i)) [
      | inl e ↦ absurd (n (in_occurs w (pair_wires ps) (any_in w (pair_wires ps) e)))
      | inr e ↦ eqb-true (occurs w ws) 2 e
    ]

    pub is_twice : (w : ℕ) → In w ws → twice c base w ≡ true
    is_twice w i = elim (dec_lt 0 (occurs w (pair_wires ps))) [
      | yes h ↦
          let q = pair_in w ps (occurs_in w (pair_wires ps) h) in
          let o = paired_once ws q.0 (pair_told ws q.0 (all_in (pair_wired ws) q.0 ps a q.1)) w q.2 in
          tell_twice w (omega (arith, once w, in_occurs w ws i))
      | no h ↦ tell_twice w (let k = alone w i h in omega arith)
    ]
