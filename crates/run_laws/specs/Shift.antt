-- A run that counts from d steps further on does the same, with d more steps.
use Prim.Native.Nat.{ℕ, zero, suc, ◌+◌, ◌<◌, ◌≤◌}
use Rattle.std.specs.Prelude.{Bool, ◌≡◌, List, ltb}
use Rattle.std.proofs.Math.Path.{refl, ap}
use Rattle.std.proofs.Common.{sym, ◌∙◌, lt-ltb, le-ltb}
use native.Mathlib.Omega.{arith}
use Rattle.std.proofs.Math.Decide.{dec_lt}
use Rattle.words.specs.Choose.{if_lt}
use Rattle.words.specs.Left.{Left}
use Rattle.run_slice.specs.Run.{run}
use Rattle.run_slice.specs.declared.Ran.{Ran}
use Rattle.run_slice.specs.declared.Ran.TheVariants.{Rested, Refused}
use Rattle.run_laws.specs.Course.{rests, ends, course, taken, moves, moves_below, still, goes, refused, way, still_run, still_course, goes_run, goes_course, refused_run, refused_course}

-- how a run ends, with d more steps
unfoldable pub longer : ℕ → Ran → Ran
longer d (Rested s) = Rested (d + s)
longer d (Refused s r) = Refused (d + s) r

-- a run's answer with d more steps
unfoldable pub later : ℕ → Left Ran → Left Ran
later d x = record { is = longer d x.is; ws = x.ws }

-- a run's course with d more steps
unfoldable pub shifted : ℕ → Left Ran × Bool × Bool → Left Ran × Bool × Bool
shifted d x = (later d x.0, x.1, x.2)

same_below : (a b c e : ℕ) → (a < b → c < e) → (b ≤ a → e ≤ c) → ltb a b ≡ ltb c e
same_below a b c e f g = elim (dec_lt a b) [
  | yes h ↦ lt-ltb a b h ∙ sym (lt-ltb c e (f h))
  | no h ↦ let i : b ≤ a = omega arith in le-ltb a b i ∙ sym (le-ltb c e (g i))
]

module _ (file sets : List ℕ) where
  -- steps are only added
  pub steps_grow : (ws : List ℕ) (most s k : ℕ) → most ≤ 4294967295 → s ≤ taken (run ws file sets most s k).is
  unfolding run
  steps_grow ws most s zero b = omega arith
  steps_grow ws most s (suc k) b = elim (way ws file sets most s) [
    | still m ↦ rw (still_run ws file sets most s k m) (omega arith)
    | goes c w i m t ↦
        let h = moves_below ws most s m in
        let g = steps_grow w most (s + c) k b in
        rw (goes_run ws file sets most s k (s + c) w m (t s (omega arith))) (omega arith)
    | refused r w m t ↦ rw (refused_run ws file sets most s k r w m (t s)) (omega arith)
  ]

  -- against M from s, and against N from d + s, where the two tests agree up to `top` steps
  module _ (M N d top : ℕ) (b_m : M ≤ 4294967295) (b_n : N ≤ 4294967295) (same : (s : ℕ) → s ≤ top → ltb s M ≡ ltb (d + s) N) where
    moves_same : (ws : List ℕ) (s : ℕ) → s ≤ top → moves ws N (d + s) ≡ moves ws M s
    unfolding moves if_lt
    moves_same ws s h = rw (same s h)

    pub course_shift : (ws : List ℕ) (s k : ℕ) → taken (run ws file sets M s k).is ≤ top → course ws file sets N (d + s) k ≡ shifted d (course ws file sets M s k)
    unfolding course run ends rests shifted later longer
    course_shift ws s zero h = refl
    course_shift ws s (suc k) h =
        let i = steps_grow ws M s (suc k) b_m in
        let v : moves ws N (d + s) ≡ moves ws M s = moves_same ws s (omega arith) in
        elim (way ws file sets M s) [
          | still m ↦ still_course ws file sets N (d + s) k (v ∙ m) ∙ ap (shifted d) (sym (still_course ws file sets M s k m))
          | goes c w l m t ↦
              let x = moves_below ws M s m in
              let y = moves_below ws N (d + s) (v ∙ m) in
              let z : d + s + c ≡ d + (s + c) = omega arith in
              let g = t s (omega arith) in
              goes_course ws file sets N (d + s) k (d + (s + c)) w (v ∙ m) (rw z at (t (d + s) (omega arith)))
              ∙ course_shift w (s + c) k (rw (goes_run ws file sets M s k (s + c) w m g) at h)
              ∙ ap (shifted d) (sym (goes_course ws file sets M s k (s + c) w m g))
          | refused r w m t ↦
              refused_course ws file sets N (d + s) k r w (v ∙ m) (t (d + s)) ∙ ap (shifted d) (sym (refused_course ws file sets M s k r w m (t s)))
        ]

  -- counting from d + s against d + most
  pub run_shift : (ws : List ℕ) (most s d k : ℕ) → d + most < 4294967296 → course ws file sets (d + most) (d + s) k ≡ shifted d (course ws file sets most s k)
  run_shift ws most s d k b =
      course_shift most (d + most) d (taken (run ws file sets most s k).is) (omega arith) (omega arith)
      (λ x h. same_below x most (d + x) (d + most) (λ i. omega arith) (λ i. omega arith)) ws s k (omega arith)

  -- counting from d + s in a slice that is none, which the steps do not reach
  pub run_shift_none : (ws : List ℕ) (s d k : ℕ) → d + taken (run ws file sets 4294967295 s k).is < 4294967295
      → course ws file sets 4294967295 (d + s) k ≡ shifted d (course ws file sets 4294967295 s k)
  run_shift_none ws s d k b =
      course_shift 4294967295 4294967295 d (taken (run ws file sets 4294967295 s k).is) (omega arith) (omega arith)
      (λ x h. same_below x 4294967295 (d + x) 4294967295 (λ i. omega arith) (λ i. omega arith)) ws s k (omega arith)
