-- A list of slices, run one after another, is one slice of their sum.
use Rattle.std.specs.Prelude.{ℕ, ◌+◌, ◌<◌, Bool, ◌≡◌}
use Rattle.std.proofs.Math.Bool.{true, false}
use Rattle.std.proofs.Math.Path.{refl, sym, ap}
use Rattle.std.proofs.Common.{◌∙◌, arith}
use mathlib.Core.List.{List, [], ◌∷◌}
use Rattle.words.specs.Choose.{pick, lt_no}
use Rattle.words.specs.Left.{Left}
use Rattle.net_file.specs.Lists.{sum}
use Rattle.run_slice.specs.Run.{run}
use Rattle.run_slice.specs.declared.Ran.{Ran}
use Rattle.run_laws.specs.Course.{rests, ends, course, at_rest, taken, alive, moves, still_course}
use Rattle.run_laws.specs.Further.{refused_goes_on}
use Rattle.run_laws.specs.Shift.{later, shifted}
use Rattle.run_laws.specs.Compose.{courses_compose, none_composes}

-- slices of k turns each, the next one on the words that the one before left; a refusal stops
unfoldable pub slices : List ℕ → List ℕ → List ℕ → ℕ → List ℕ → Left Ran
slices ws file sets k [] = at_rest 0 ws
slices ws file sets k (m ∷ ms) =
    let a = run ws file sets m 0 k in
    pick (rests ws file sets m 0 k) (later (taken a.is) (slices a.ws file sets k ms)) a

-- each slice rests within its turns
unfoldable pub all_rest : List ℕ → List ℕ → List ℕ → ℕ → List ℕ → Bool
all_rest ws file sets k [] = true
all_rest ws file sets k (m ∷ ms) = pick (rests ws file sets m 0 k) (all_rest (run ws file sets m 0 k).ws file sets k ms) false

-- each slice that is run ends within its turns
unfoldable pub all_end : List ℕ → List ℕ → List ℕ → ℕ → List ℕ → Bool
all_end ws file sets k [] = true
all_end ws file sets k (m ∷ ms) = pick (rests ws file sets m 0 k) (all_end (run ws file sets m 0 k).ws file sets k ms) (ends ws file sets m 0 k)

-- the turns of all slices, and one to see that none is left
unfoldable pub turns : ℕ → List ℕ → ℕ
turns k [] = 1
turns k (m ∷ ms) = k + turns k ms

module _ (file sets : List ℕ) (k : ℕ) where
  none_left : (ws : List ℕ) → moves ws 0 0 ≡ false
  unfolding moves
  none_left ws = sym (lt_no 0 0 (alive ws) false (omega arith) refl)

  -- the claim for a list of slices
  abbrev One : List ℕ → List ℕ → Type 0
  One ws ms = course ws file sets (sum ms) 0 (turns k ms) ≡ (slices ws file sets k ms, true, all_rest ws file sets k ms)

  module _ (ws : List ℕ) (m : ℕ) (ms : List ℕ) (b : m + sum ms < 4294967296) (f : all_end ws file sets k (m ∷ ms) ≡ true) where
    abbrev a : Left Ran
    a = run ws file sets m 0 k

    one_rests : rests ws file sets m 0 k ≡ true → One a.ws ms → One ws (m ∷ ms)
    unfolding slices all_rest turns pick course shifted
    one_rests e g =
        courses_compose file sets ws m k (turns k ms) a refl e (sum ms) b (ap (λ p. p.1) g) ∙ ap (shifted (taken a.is)) g ∙ rw e

    one_refused : rests ws file sets m 0 k ≡ false → One ws (m ∷ ms)
    unfolding slices all_rest all_end turns pick course
    one_refused e =
        let i : ends ws file sets m 0 k ≡ true = rw e at f in
        refused_goes_on file sets m (m + sum ms) (turns k ms) (omega arith) (omega arith) ws 0 k i e ∙ rw (e, i)

    rest_ends : rests ws file sets m 0 k ≡ true → all_end a.ws file sets k ms ≡ true
    unfolding all_end pick
    rest_ends e = rw e at f

    one_by : (t : Bool) → rests ws file sets m 0 k ≡ t → (all_end a.ws file sets k ms ≡ true → One a.ws ms) → One ws (m ∷ ms)
    one_by true e g = one_rests e (g (rest_ends e))
    one_by false e g = one_refused e

  -- slices whose sum is a slice: one run of the sum, which rests where all of them do
  pub slices_are_one : (ws ms : List ℕ) → sum ms < 4294967296 → all_end ws file sets k ms ≡ true
      → course ws file sets (sum ms) 0 (turns k ms) ≡ (slices ws file sets k ms, true, all_rest ws file sets k ms)
  unfolding slices all_rest turns
  slices_are_one ws [] b f = still_course ws file sets 0 0 0 (none_left ws)
  slices_are_one ws (m ∷ ms) b f =
      one_by ws m ms b f (rests ws file sets m 0 k) refl (λ g. slices_are_one (run ws file sets m 0 k).ws ms (omega arith) g)

  pub slices_are_one_run : (ws ms : List ℕ) → sum ms < 4294967296 → all_end ws file sets k ms ≡ true
      → run ws file sets (sum ms) 0 (turns k ms) ≡ slices ws file sets k ms
  unfolding course
  slices_are_one_run ws ms b f = ap (λ p. p.0) (slices_are_one ws ms b f)

  -- slices that rest, and then a slice that is none: one run without a slice
  pub slices_then_none : (ws ms : List ℕ) (j : ℕ) (a : Left Ran) → a ≡ slices ws file sets k ms → sum ms < 4294967296 → all_end ws file sets k ms ≡ true
      → all_rest ws file sets k ms ≡ true → ends a.ws file sets 4294967295 0 j ≡ true
      → taken a.is + taken (run a.ws file sets 4294967295 0 j).is < 4294967295
      → run ws file sets 4294967295 0 (turns k ms + j) ≡ later (taken a.is) (run a.ws file sets 4294967295 0 j)
  unfolding course
  slices_then_none ws ms j a ea b f e g h =
      let c = slices_are_one ws ms b f in
      none_composes file sets ws (sum ms) (turns k ms) j a (ea ∙ sym (ap (λ p. p.0) c)) (ap (λ p. p.2) c ∙ e) (omega arith) g h
