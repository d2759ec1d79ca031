-- `fuel-lasts`: on the words of a run a slice of any number ends within its turns; so two slices are one slice of both, none too, and a
-- slice that is refused is refused in a longer one, with the same words.
use Rattle.std.specs.Prelude.{ℕ, zero, suc, ◌+◌, ◌<◌, ◌≤◌, ◌≡◌, true, false, List}
use Rattle.std.proofs.Math.Path.{refl, ap, subst}
use Rattle.std.proofs.Common.{sym, ◌∙◌, arith}
use Rattle.std.proofs.Math.Logic.{inl, inr}
use Rattle.std.proofs.Math.Option.{Option, some}
use Rattle.net_file.specs.Lists.{ok}
use Rattle.net_file.specs.Values.{FlatNet, File}
use Rattle.net_file.specs.Checks.{flat, read}
use Rattle.net_file_laws.specs.Bytes.{Bytes}
use Rattle.definitions.specs.State.{Engine}
use Rattle.definitions.specs.Run
use Rattle.good_laws.specs.Good.{rest}
use Rattle.slice_laws.specs.Loop.{Lasts}
use Rattle.fuel_laws.proofs.Lasts as Engine-as-Lasts
use Rattle.reached_laws.specs.Wires.{Wires, wires_sound}
use Rattle.words.specs.Choose.{lt_no}
use Rattle.words.specs.Left.{Left}
use Rattle.run_slice.specs.Run.{on_ran, run, slice, fuel}
use Rattle.run_slice.specs.declared.Ran.{Ran}
use Rattle.run_slice.specs.declared.Ran.TheVariants.{Rested}
use Rattle.run_slice.specs.declared.Ran.TheVariants.{Refused as Ran-as-Refused}
use Rattle.run_laws.specs.Course.{rests, ends, course, taken, at_rest, alive, moves, dead_rests, still_run}
use Rattle.run_laws.specs.Further.{more_fuel, refused_goes_on}
use Rattle.run_laws.specs.Shift.{later}
use Rattle.run_laws.specs.Compose.{rested, none_composes}
use Rattle.run_laws.specs.Whole.{sets_of_words, slice_of_both}
use Rattle.held_names.specs.Named.{Named}
use Rattle.acts_means.specs.Holds.{free_path_of, Holds}
use Rattle.visiting_means.specs.Slice.{S, turns, sets_of, built}
use Rattle.fuel_means.specs.Course.{run_stays, rests_by}

-- ---- for any number of turns

module _ (ws file sets : List ℕ) (k : ℕ) where
  -- a run that is refused: a longer one too, there
  refused_both : (n N : ℕ) → n ≤ N → N ≤ 4294967295 → ends ws file sets n 0 k ≡ true → rests ws file sets n 0 k ≡ false
      → ends ws file sets N 0 k ≡ true → run ws file sets N 0 k ≡ run ws file sets n 0 k
  unfolding course
  refused_both n N h b e f g =
      ap (λ p. p.0) (sym (more_fuel file sets ws N 0 k k b g) ∙ refused_goes_on file sets n N k h b ws 0 k e f)

  -- a run that rests, and then one that is none
  none_both : (n : ℕ) (a : Left Ran) → a ≡ run ws file sets n 0 k → n ≤ 4294967295 → rests ws file sets n 0 k ≡ true → ends a.ws file sets 4294967295 0 k ≡ true
      → ends ws file sets 4294967295 0 k ≡ true → taken a.is + taken (run a.ws file sets 4294967295 0 k).is < 4294967295
      → run ws file sets 4294967295 0 k ≡ later (taken a.is) (run a.ws file sets 4294967295 0 k)
  unfolding course
  none_both n a ea b e f g h =
      ap (λ p. p.0) (sym (more_fuel file sets ws 4294967295 0 k k (omega arith) g)) ∙ none_composes file sets ws n k k a ea e b f h

-- ---- the words of a run

module _ (s : List ℕ) (is : Bytes s) (f : File FlatNet) (accepted : read flat s ≡ ok f) (ws : List ℕ) (e : Engine) (h : Holds s f rest ws e) where
  lasts : (n : Option ℕ) → Lasts (Run.run Run.fuel n e)
  lasts n =
      Engine-as-Lasts.fuel_lasts (Wires (free_path_of f)) (wires_sound (free_path_of f)) n e
      (h.kept, record { nodes = h.means.header.few_nodes; waits = h.means.header.few_waits })

  stays : (n : ℕ) → (ends ws s (sets_of_words s) n 0 fuel ≡ true) × (taken (run ws s (sets_of_words s) n 0 fuel).is ≤ 16777216)
  unfolding Run.fuel
  stays n =
      run_stays (Named s f) s (sets_of s is f accepted) (S s is f accepted (sets_of s is f accepted) (built s is f accepted))
      (turns s is f accepted (sets_of s is f accepted) (built s is f accepted)) fuel (some n) n 0 ws e h (omega arith) (omega arith) (lasts (some n))

  -- the turns of a slice are enough
  pub fuel_lasts : (n : ℕ) → ends ws s (sets_of_words s) n 0 fuel ≡ true
  fuel_lasts n = (stays n).0

  -- a slice takes no more steps than a limit can allow
  pub steps_few : (n : ℕ) → taken (slice ws s n).is ≤ 16777216
  unfolding slice
  steps_few n = (stays n).1

  -- one that is not refused rests
  pub fuel_rests : (n j : ℕ) → n ≤ 4294967295 → (slice ws s n).is ≡ Rested j → rests ws s (sets_of_words s) n 0 fuel ≡ true
  unfolding slice on_ran
  fuel_rests n j b q = rests_by ws s (sets_of_words s) n 0 fuel b (fuel_lasts n) ∙ rw q refl

  -- refused: every longer slice is refused so, with the same words
  pub slice_refused : (n N j r : ℕ) → n ≤ N → N ≤ 4294967295 → (slice ws s n).is ≡ Ran-as-Refused j r → slice ws s N ≡ slice ws s n
  unfolding slice on_ran
  slice_refused n N j r l b q =
      refused_both ws s (sets_of_words s) fuel n N l b (fuel_lasts n) (rests_by ws s (sets_of_words s) n 0 fuel (omega arith) (fuel_lasts n) ∙ rw q refl) (fuel_lasts N)

  -- a slice of none that is not refused leaves nothing to do
  pub none_dead : (j : ℕ) → (slice ws s 4294967295).is ≡ Rested j → alive (slice ws s 4294967295).ws ≡ false
  unfolding slice
  none_dead j q =
      let t = steps_few 4294967295 in
      elim (rested s (sets_of_words s) ws 4294967295 0 fuel (slice ws s 4294967295) (omega arith) (omega arith) refl (fuel_rests 4294967295 j (omega arith) q)) [
        | inl x ↦ absurd (omega arith)
        | inr d ↦ d
      ]

-- where no turn is taken a slice rests at once
slice_still : (ws s : List ℕ) (n : ℕ) → moves ws n 0 ≡ false → slice ws s n ≡ at_rest 0 ws
unfolding slice
slice_still ws s n m = still_at (sets_of_words s) fuel (omega arith)
  where
    still_at : (sets : List ℕ) (k : ℕ) → 0 < k → run ws s sets n 0 k ≡ at_rest 0 ws
    still_at sets zero l = absurd (omega arith)
    still_at sets (suc k) l = still_run ws s sets n 0 k m

-- on words with nothing to do
pub slice_dead : (ws s : List ℕ) (n : ℕ) → alive ws ≡ false → slice ws s n ≡ at_rest 0 ws
slice_dead ws s n d = slice_still ws s n (dead_rests ws n 0 d)

-- of no step
pub slice_of_zero : (ws s : List ℕ) → slice ws s 0 ≡ at_rest 0 ws
unfolding moves
slice_of_zero ws s = slice_still ws s 0 (sym (lt_no 0 0 (alive ws) false (omega arith) refl))

module _ (s : List ℕ) (is : Bytes s) (f : File FlatNet) (accepted : read flat s ≡ ok f) (ws : List ℕ) (e : Engine) (h : Holds s f rest ws e) (n j : ℕ) (a : Left Ran)
    (ea : a ≡ slice ws s n) (q : a.is ≡ Rested j) (e' : Engine) (h' : Holds s f rest a.ws e') where
  told : (slice ws s n).is ≡ Rested j
  told = ap (λ (x : Left Ran). x.is) (sym ea) ∙ q

  steps_are : taken a.is ≡ j
  steps_are = rw q refl

  -- a slice of n, and then one of m: one of n + m
  pub slice_and_slice : (m : ℕ) → n + m ≤ 4294967295 → slice ws s (n + m) ≡ later j (slice a.ws s m)
  slice_and_slice m b =
      slice_of_both ws s n m a ea (omega arith) (fuel_rests s is f accepted ws e h n j (omega arith) told) (fuel_lasts s is f accepted a.ws e' h' m)
      (fuel_lasts s is f accepted ws e h (n + m)) ∙ ap (λ (i : ℕ). later i (slice a.ws s m)) steps_are

  -- and then one of none: one of none
  pub slice_and_none : n ≤ 4294967295 → slice ws s 4294967295 ≡ later j (slice a.ws s 4294967295)
  unfolding slice
  slice_and_none b =
      let x : taken a.is ≤ 16777216 = subst (λ (y : Left Ran). taken y.is ≤ 16777216) (sym ea) (steps_few s is f accepted ws e h n) in
      let y = steps_few s is f accepted a.ws e' h' 4294967295 in
      none_both ws s (sets_of_words s) fuel n a ea b (fuel_rests s is f accepted ws e h n j b told) (fuel_lasts s is f accepted a.ws e' h' 4294967295)
      (fuel_lasts s is f accepted ws e h 4294967295) (omega arith) ∙ ap (λ (i : ℕ). later i (slice a.ws s 4294967295)) steps_are
