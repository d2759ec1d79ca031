-- More turns, and a wider slice: a run that rested goes on from where it rests.
use Prim.Native.Nat.{ℕ, zero, suc, ◌+◌, ◌≤◌}
use Rattle.std.specs.Prelude.{true, ◌≡◌, List}
use Rattle.std.proofs.Math.Bool.{false}
use Rattle.std.proofs.Math.Path.{refl, sym}
use Rattle.std.proofs.Common.{◌∙◌}
use native.Mathlib.Omega.{arith}
use Rattle.words.specs.Left.{Left}
use Rattle.run_slice.specs.Run.{run}
use Rattle.run_slice.specs.declared.Ran.{Ran}
use Rattle.run_laws.specs.Course.{rests, ends, course, at_rest, taken, moves, not_both, moves_below, moves_alive, alive_moves, still, goes, refused, way, still_run, still_rests, still_course, goes_run, goes_rests, goes_ends, goes_course, refused_rests, refused_course}

more : (k j : ℕ) → suc k + j ≡ suc (k + j)
more k j = omega arith

module _ (file sets : List ℕ) where
  -- more turns do not change a run that ended
  pub more_fuel : (ws : List ℕ) (most s k j : ℕ) → most ≤ 4294967295 → ends ws file sets most s k ≡ true
      → course ws file sets most s (k + j) ≡ course ws file sets most s k
  unfolding ends
  more_fuel ws most s zero j b e = not_both false e refl
  more_fuel ws most s (suc k) j b e = rw (more k j) (elim (way ws file sets most s) [
    | still m ↦ still_course ws file sets most s (k + j) m ∙ sym (still_course ws file sets most s k m)
    | goes c w i m t ↦
        let h = moves_below ws most s m in
        let g = t s (omega arith) in
        goes_course ws file sets most s (k + j) (s + c) w m g
        ∙ more_fuel w most (s + c) k j b (sym (goes_ends ws file sets most s k (s + c) w m g) ∙ e)
        ∙ sym (goes_course ws file sets most s k (s + c) w m g)
    | refused r w m t ↦ refused_course ws file sets most s (k + j) r w m (t s) ∙ sym (refused_course ws file sets most s k r w m (t s))
  ])

  -- nor does it matter which turns are enough
  pub any_fuel : (ws : List ℕ) (most s k j : ℕ) → most ≤ 4294967295 → ends ws file sets most s k ≡ true → ends ws file sets most s j ≡ true
      → course ws file sets most s k ≡ course ws file sets most s j
  any_fuel ws most s k j b e f =
      let z : k + j ≡ j + k = omega arith in
      sym (rw z at (more_fuel ws most s k j b e)) ∙ more_fuel ws most s j k b f

  module _ (n N j : ℕ) (n_n : n ≤ N) (b : N ≤ 4294967295) where
    wider : (ws : List ℕ) (s : ℕ) → moves ws n s ≡ true → moves ws N s ≡ true
    wider ws s m = let h = moves_below ws n s m in alive_moves ws N s (omega arith) (moves_alive ws n s m)

    -- a run of N steps at most is one of n that rested, and the rest from there
    pub run_goes_on : (ws : List ℕ) (s k : ℕ) (a : Left Ran) → a ≡ run ws file sets n s k → rests ws file sets n s k ≡ true
        → ends a.ws file sets N (taken a.is) j ≡ true → course ws file sets N s (k + j) ≡ course a.ws file sets N (taken a.is) j
    unfolding rests
    run_goes_on ws s zero a ea e f = not_both false e refl
    run_goes_on ws s (suc k) a ea e f = elim (way ws file sets n s) [
      | still m ↦
          let q : a ≡ at_rest s ws = ea ∙ still_run ws file sets n s k m in
          let z : suc k + j ≡ j + suc k = omega arith in
          rw (z, q) (more_fuel ws N s j (suc k) b (rw q at f))
      | goes c w i m t ↦
          let h = moves_below ws n s m in
          let g = t s (omega arith) in
          rw (more k j) (goes_course ws file sets N s (k + j) (s + c) w (wider ws s m) g
          ∙ run_goes_on w (s + c) k a (ea ∙ goes_run ws file sets n s k (s + c) w m g) (sym (goes_rests ws file sets n s k (s + c) w m g) ∙ e) f)
      | refused r w m t ↦ not_both _ e (refused_rests ws file sets n s k r w m (t s))
    ]

    -- a run that is refused is refused there in a wider slice too
    pub refused_goes_on : (ws : List ℕ) (s k : ℕ) → ends ws file sets n s k ≡ true → rests ws file sets n s k ≡ false
        → course ws file sets N s (k + j) ≡ course ws file sets n s k
    unfolding ends
    refused_goes_on ws s zero e f = not_both false e refl
    refused_goes_on ws s (suc k) e f = rw (more k j) (elim (way ws file sets n s) [
      | still m ↦ not_both _ (still_rests ws file sets n s k m) f
      | goes c w i m t ↦
          let h = moves_below ws n s m in
          let g = t s (omega arith) in
          goes_course ws file sets N s (k + j) (s + c) w (wider ws s m) g
          ∙ refused_goes_on w (s + c) k (sym (goes_ends ws file sets n s k (s + c) w m g) ∙ e) (sym (goes_rests ws file sets n s k (s + c) w m g) ∙ f)
          ∙ sym (goes_course ws file sets n s k (s + c) w m g)
      | refused r w m t ↦ refused_course ws file sets N s (k + j) r w (wider ws s m) (t s) ∙ sym (refused_course ws file sets n s k r w m (t s))
    ])
