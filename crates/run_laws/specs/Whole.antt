-- Slices with turns enough, each as `slice` runs it: one `slice` of their sum.
use Rattle.std.specs.Prelude.{ℕ, ◌+◌, ◌<◌, true, ◌≡◌, List, replicate}
use Rattle.std.proofs.Math.Path.{ap}
use Rattle.std.proofs.Common.{◌∙◌, arith}
use Rattle.words.specs.Left.{Left}
use Rattle.net_file.specs.Lists.{sum}
use Rattle.rule_sets.specs.Sets.{rule_sets}
use Rattle.run_slice.specs.Run.{run, slice, fuel}
use Rattle.run_slice.specs.declared.Ran.{Ran}
use Rattle.run_laws.specs.Course.{rests, ends, course, taken}
use Rattle.run_laws.specs.Further.{any_fuel}
use Rattle.run_laws.specs.Shift.{later, shifted}
use Rattle.run_laws.specs.Compose.{courses_compose}
use Rattle.run_laws.specs.Slices.{slices, all_end, turns, slices_are_one}

-- the sets of a file's rules
abbrev pub sets_of_words : List ℕ → List ℕ
sets_of_words file = rule_sets file (replicate 2112 0)

module _ (ws file sets : List ℕ) (k : ℕ) where
  -- k turns are enough for both slices and for the whole
  pub within : (n m : ℕ) (a : Left Ran) → a ≡ run ws file sets n 0 k → n + m < 4294967296 → rests ws file sets n 0 k ≡ true
      → ends a.ws file sets m 0 k ≡ true → ends ws file sets (n + m) 0 k ≡ true → run ws file sets (n + m) 0 k ≡ later (taken a.is) (run a.ws file sets m 0 k)
  unfolding course shifted
  within n m a ea b e f g =
      let c = courses_compose file sets ws n k k a ea e m b f in
      ap (λ p. p.0) (any_fuel file sets ws (n + m) 0 k (k + k) (omega arith) g (ap (λ p. p.1) c ∙ f) ∙ c)

  -- and for a list of slices
  pub slices_within : (ms : List ℕ) → sum ms < 4294967296 → all_end ws file sets k ms ≡ true → ends ws file sets (sum ms) 0 k ≡ true
      → run ws file sets (sum ms) 0 k ≡ slices ws file sets k ms
  unfolding course
  slices_within ms b f g =
      let c = slices_are_one file sets k ws ms b f in
      ap (λ p. p.0) (any_fuel file sets ws (sum ms) 0 k (turns k ms) (omega arith) g (ap (λ p. p.1) c) ∙ c)

-- two slices
pub slice_of_both : (ws file : List ℕ) (n m : ℕ) (a : Left Ran) → a ≡ slice ws file n → n + m < 4294967296 → rests ws file (sets_of_words file) n 0 fuel ≡ true
    → ends a.ws file (sets_of_words file) m 0 fuel ≡ true → ends ws file (sets_of_words file) (n + m) 0 fuel ≡ true
    → slice ws file (n + m) ≡ later (taken a.is) (slice a.ws file m)
unfolding slice
slice_of_both ws file n m a ea b e f g = within ws file (sets_of_words file) fuel n m a ea b e f g

-- any number of slices
pub slice_of_all : (ws file ms : List ℕ) → sum ms < 4294967296 → all_end ws file (sets_of_words file) fuel ms ≡ true → ends ws file (sets_of_words file) (sum ms) 0 fuel ≡ true
    → slice ws file (sum ms) ≡ slices ws file (sets_of_words file) fuel ms
unfolding slice
slice_of_all ws file ms b f g = slices_within ws file (sets_of_words file) fuel ms b f g
