-- Where the counts tell how often each wire occurs over places and pairs, up to 3, "every place seen twice, the two wires of
use Rattle.std.specs.Prelude.{ℕ, ◌+◌, ◌-◌, ◌<◌, ◌≤◌, min, ◌≡◌, true, ◌&&◌, ◌⊎◌, List, get_or}
use Rattle.std.proofs.Math.Bool.{or-true}
use Rattle.std.proofs.Math.Logic.{inl, inr}
use native.Mathlib.Omega.{arith}
use Rattle.std.proofs.Math.Decide.{dec_lt}
use Rattle.std.proofs.Math.Dec.{eqb}
use borrow.Author.Tests.{eqb-true, eq-eqb}
use Rattle.net_file.specs.Lists.{all, any}
use Rattle.net_file.specs.Checks.{pair_wires, occurs, pair_wired, wire_wired}
use Rattle.list_laws.specs.Tests.{same_test, both, both_are, either}
use Rattle.wiring.specs.Wiring.{twice, alike}
use Rattle.wiring_laws.specs.Members.{In, all_in, in_all, in_occurs, occurs_in, any_in, in_any, in_pair, pair_in}
use Rattle.wiring_laws.specs.Counts.{tell_pair, twice_told, in_one, is_alike, is_twice}

-- ---- counts that tell: ws are the places, ps the pairs, no wire is in two pairs

module _ (c : List ℕ) (base : ℕ) (ws : List ℕ) (ps : List (ℕ × ℕ)) (once : (w : ℕ) → occurs w (pair_wires ps) ≤ 1)
    (told : (w : ℕ) → get_or c w 0 - base ≡ min 3 (occurs w ws + occurs w (pair_wires ps))) where
  -- ---- from the check

  module _ (a : all (alike c) ps ≡ true) (t : all (twice c base) ws ≡ true) where
    -- a wire of a pair that occurs at all occurs once
    at_once : (w : ℕ) → In w (pair_wires ps) → 0 < occurs w ws → occurs w ws ≡ 1
    at_once w i h = omega (arith, (in_one c base ws ps once told) w i, (twice_told c base ws ps once told) w (all_in (twice c base) w ws t (occurs_in w ws h)))

    pair_is : (p : ℕ × ℕ) → In p ps → pair_wired ws p ≡ true
    unfolding alike
    pair_is p i =
        let k = in_pair p ps i in
        let e = eqb-true (get_or c p.0 0) (get_or c p.1 0) (all_in (alike c) p ps a i) in
        let x = told p.0 in
        let y = told p.1 in
        let u = (in_one c base ws ps once told) p.0 k.0 in
        let v = (in_one c base ws ps once told) p.1 k.1 in
        tell_pair ws p (elim (dec_lt 0 (occurs p.0 ws)) [
          | yes h ↦
              let m = at_once p.0 k.0 h in
              let n = at_once p.1 k.1 (omega arith) in
              inl (m, n)
          | no h ↦ inr (omega arith, omega arith)
        ])

    wire_is : (w : ℕ) → In w ws → wire_wired ws ps w ≡ true
    unfolding wire_wired
    wire_is w i =
        let e = (twice_told c base ws ps once told) w (all_in (twice c base) w ws t i) in
        elim (dec_lt 0 (occurs w (pair_wires ps))) [
          | yes h ↦ rw (in_any w (pair_wires ps) (occurs_in w (pair_wires ps) h))
          | no h ↦ let n : occurs w ws ≡ 2 = omega arith in rw (n, or-true)
        ]

  pub counts_tell : (all (alike c) ps && all (twice c base) ws) ≡ (all (pair_wired ws) ps && all (wire_wired ws ps) ws)
  counts_tell = same_test _ _
      (λ e. let k = both (all (alike c) ps) (all (twice c base) ws) e in
      both_are _ _ (in_all (pair_wired ws) ps (pair_is k.0 k.1)) (in_all (wire_wired ws ps) ws (wire_is k.0 k.1)))
      (λ e. let k = both (all (pair_wired ws) ps) (all (wire_wired ws ps) ws) e in
      both_are _ _ (in_all (alike c) ps ((is_alike c base ws ps once told) k.0 k.1)) (in_all (twice c base) ws ((is_twice c base ws ps once told) k.0 k.1)))
