-- Two slices, one after the other, are one slice of both.
use Prim.Native.Nat.{ℕ, zero, suc, ◌+◌, ◌<◌, ◌≤◌}
use Rattle.std.proofs.Math.Bool.{true, false}
use Rattle.std.specs.Prelude.{◌⊎◌, ◌≡◌, List}
use Rattle.std.proofs.Math.Logic.{inl, inr}
use Rattle.std.proofs.Math.Path.{refl, ap}
use Rattle.std.proofs.Common.{sym, ◌∙◌}
use native.Mathlib.Omega.{arith}
use Rattle.words.specs.Left.{Left}
use Rattle.run_slice.specs.Run.{run}
use Rattle.run_slice.specs.declared.Ran.{Ran}
use Rattle.run_laws.specs.Course.{rests, ends, course, at_rest, taken, alive, not_both, moves_below, dead_rests, stops, still, goes, refused, way, still_run, still_course, goes_run, goes_rests, refused_rests}
use Rattle.run_laws.specs.Further.{run_goes_on}
use Rattle.run_laws.specs.Shift.{longer, later, shifted, run_shift, run_shift_none}

module _ (file sets : List ℕ) where
  -- where a run rests, its slice is used up or the words ask for no turn
  pub rested : (ws : List ℕ) (n s k : ℕ) (a : Left Ran) → n ≤ 4294967295 → s ≤ n → a ≡ run ws file sets n s k → rests ws file sets n s k ≡ true
      → (taken a.is ≡ n) ⊎ (alive a.ws ≡ false)
  unfolding rests
  rested ws n s zero a b h ea e = not_both false e refl
  rested ws n s (suc k) a b h ea e = elim (way ws file sets n s) [
    | still m ↦
        let q : a ≡ at_rest s ws = ea ∙ still_run ws file sets n s k m in
        elim (stops ws n s m) [ inl i ↦ inl (rw q (omega arith)) | inr d ↦ inr (rw q d) ]
    | goes c w i m t ↦
        let x = moves_below ws n s m in
        let g = t s (omega arith) in
        rested w n (s + c) k a b (omega arith) (ea ∙ goes_run ws file sets n s k (s + c) w m g) (sym (goes_rests ws file sets n s k (s + c) w m g) ∙ e)
    | refused r w m t ↦ not_both _ e (refused_rests ws file sets n s k r w m (t s))
  ]

  -- words that ask for no turn: a run from any number of steps rests at once
  dead_course : (ws : List ℕ) (n m d j : ℕ) → alive ws ≡ false → ends ws file sets m 0 j ≡ true → course ws file sets n d j ≡ shifted d (course ws file sets m 0 j)
  unfolding ends shifted later longer
  dead_course ws n m d zero x e = not_both false e refl
  dead_course ws n m d (suc j) x e =
      let z : d ≡ d + 0 = omega arith in
      still_course ws file sets n d j (dead_rests ws n d x) ∙ ap (λ (y : ℕ). (at_rest y ws, true, true)) z
      ∙ ap (shifted d) (sym (still_course ws file sets m 0 j (dead_rests ws m 0 x)))

  module _ (ws : List ℕ) (n k j : ℕ) (a : Left Ran) (ea : a ≡ run ws file sets n 0 k) (e : rests ws file sets n 0 k ≡ true) where
    -- the second slice, counted from the first one's steps
    second : (m : ℕ) → n + m < 4294967296 → ends a.ws file sets m 0 j ≡ true
        → course a.ws file sets (n + m) (taken a.is) j ≡ shifted (taken a.is) (course a.ws file sets m 0 j)
    second m b f = elim (rested ws n 0 k a (omega arith) (omega arith) ea e) [
      | inl q ↦
          let y : n + 0 ≡ n = omega arith in
          rw q (rw y at (run_shift file sets a.ws m 0 n j b))
      | inr d ↦ dead_course a.ws (n + m) m (taken a.is) j d f
    ]

    -- a second slice that goes on as part of the whole
    joined : (m N : ℕ) → n ≤ N → N ≤ 4294967295 → ends a.ws file sets m 0 j ≡ true
        → course a.ws file sets N (taken a.is) j ≡ shifted (taken a.is) (course a.ws file sets m 0 j)
        → course ws file sets N 0 (k + j) ≡ shifted (taken a.is) (course a.ws file sets m 0 j)
    unfolding course shifted
    joined m N h b f g = run_goes_on file sets n N j h b ws 0 k a ea e (ap (λ p. p.1) g ∙ f) ∙ g

    pub courses_compose : (m : ℕ) → n + m < 4294967296 → ends a.ws file sets m 0 j ≡ true
        → course ws file sets (n + m) 0 (k + j) ≡ shifted (taken a.is) (course a.ws file sets m 0 j)
    courses_compose m b f = joined m (n + m) (omega arith) (omega arith) f (second m b f)

    -- a slice of n that rests and then one of m: one slice of n + m, with the second one's words and refusal and the steps of both
    pub slices_compose : (m : ℕ) → n + m < 4294967296 → ends a.ws file sets m 0 j ≡ true
        → run ws file sets (n + m) 0 (k + j) ≡ later (taken a.is) (run a.ws file sets m 0 j)
    unfolding course shifted
    slices_compose m b f = ap (λ p. p.0) (courses_compose m b f)

    -- the same where the second slice is none, and so is the whole
    pub none_composes : n ≤ 4294967295 → ends a.ws file sets 4294967295 0 j ≡ true → taken a.is + taken (run a.ws file sets 4294967295 0 j).is < 4294967295
        → run ws file sets 4294967295 0 (k + j) ≡ later (taken a.is) (run a.ws file sets 4294967295 0 j)
    unfolding course shifted
    none_composes b f h =
        let y : taken a.is + 0 ≡ taken a.is = omega arith in
        ap (λ p. p.0) (joined 4294967295 4294967295 b (omega arith) f (rw y at (run_shift_none file sets a.ws 0 (taken a.is) j h)))
