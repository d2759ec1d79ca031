-- A slice call on words and bytes that carry a run, by the run on the words alone; and the numbers that a call takes.
use Rattle.std.specs.Prelude.{ℕ, ◌≤◌, ◌⊎◌, Bool, false, ◌||◌, List, [], ◌∷◌, map, length, eqb, leb}
use Rattle.std.proofs.Math.Path.{◌≡◌, refl, sym, subst}
use Rattle.std.proofs.Common.{ap, ◌∙◌, inl, inr, arith, eqb-true, leb-true, ne_eqb, le-leb}
use Rattle.std.proofs.Math.Bool.{true}
use Rattle.std.proofs.Math.Option.{Option, none, some}
use Rattle.list_laws.specs.Tests.{both_are}
use Rattle.net_file.specs.Lists.{Result, ok, refuse, need, all, sum}
use Rattle.net_file.specs.Values.{FlatNet, File, max_steps, no_limit}
use Rattle.net_file.specs.Read.{limit_of}
use Rattle.net_file.specs.Write.{limit_number}
use Rattle.net_file.specs.Checks.{limit_fits}
use Rattle.definitions.specs.State.{Engine}
use Rattle.definitions.specs.Run.{run_slice}
use Rattle.definitions.specs.Calls.{Held}
use Rattle.slice_laws.specs.Sums.{total}
use Rattle.reached_laws.specs.Calls.{SumFits}
use Rattle.words.specs.Choose.{pick, if_eq}
use Rattle.words.specs.Left.{Left}
use Rattle.run_slice.specs.Run.{on_ran}
use Rattle.run_slice.specs.Run.{slice as run_slice_words}
use Rattle.run_slice.specs.declared.Ran.{Ran}
use Rattle.run_slice.specs.declared.Ran.TheVariants.{Rested}
use Rattle.lent.specs.Lent.{Lent, zero_words, zero_bytes}
use Rattle.lent.specs.declared.Pools as Lent
use Rattle.lent.specs.declared.Answer.TheVariants.{Done, Refused}
use Rattle.slicing.specs.Slicing.{steps_fit, run_held, slice_image, slice}
use Rattle.calls_means.specs.Carries.{Carries, Outcomes, carries_room, carries_length, carries_bytes, carries_resumable}
use Rattle.calls_means.specs.Slice.{steps_told, Runs, Slices}
use Rattle.calls_means.proofs.Slice.{slice_tells}

-- what a call leaves of a run of the file s: the words as they are, or zeros where it is refused
unfoldable pub left_by : Lent.Pools → List ℕ → List ℕ → Left Ran → Lent
left_by q s bs r =
    on_ran r.is (λ j. record { is = Done j; ws = r.ws; bs = bs }) (λ m. record { is = Refused m; ws = zero_words q r.ws; bs = zero_bytes (length s) bs })

-- ---- numbers

pick_or : (t u : Bool) → pick t true u ≡ (t || u)
unfolding pick
pick_or true u = refl
pick_or false u = refl

steps_are : (n : ℕ) → steps_fit n ≡ limit_fits n
unfolding steps_fit limit_fits if_eq
steps_are n = pick_or (eqb n no_limit) (leb n 16777216)

-- the number of a sum is one that a call takes
pub sum_fits : (o : Option ℕ) → SumFits o → limit_fits (limit_number o) ≡ true
unfolding limit_number limit_fits
sum_fits none h = refl
sum_fits (some n) h = ap (λ (t : Bool). t || leb n max_steps) (ne_eqb n no_limit (λ z. omega arith)) ∙ le-leb n max_steps h

pub number_small : (o : Option ℕ) → SumFits o → limit_number o ≤ 4294967295
unfolding limit_number
number_small none h = omega arith
number_small (some n) h = omega arith

-- a number that a call takes is at most the number for none
pub fits_small : (n : ℕ) → limit_fits n ≡ true → n ≤ 4294967295
unfolding limit_fits
fits_small n = go (eqb n no_limit) refl
  where
    go : (t : Bool) → eqb n no_limit ≡ t → (t || leb n max_steps) ≡ true → n ≤ 4294967295
    go true e h = let z = eqb-true n no_limit e in omega arith
    go false e h = let z = leb-true n max_steps h in omega arith

-- the limit that a number stands for, by its test
abbrev limit_by : ℕ → Bool → Option ℕ
limit_by n t = elim t as (λ _. Option ℕ) [ true ↦ none | false ↦ some n ]

-- a number is none, or it stands for itself
pub number_is : (n : ℕ) → ((n ≡ no_limit) × (limit_of n ≡ none)) ⊎ (limit_of n ≡ some n)
unfolding limit_of
number_is n = go (eqb n no_limit) refl
  where
    go : (t : Bool) → eqb n no_limit ≡ t → ((n ≡ no_limit) × (limit_by n t ≡ none)) ⊎ (limit_by n t ≡ some n)
    go true e = inl (eqb-true n no_limit e, refl)
    go false e = inr refl

-- numbers whose sum is at most 16,777,216 are numbers that a call takes, and stand for themselves
pub sum_is : (ns : List ℕ) → sum ns ≤ 16777216 → (total (map limit_of ns) ≡ some (sum ns)) × (all limit_fits ns ≡ true)
unfolding limit_number
sum_is [] b = (refl, refl)
sum_is (n ∷ ns) b =
    let i = sum_is ns (omega arith) in
    (rw (own n (omega arith), i.0) refl, both_are (limit_fits n) (all limit_fits ns) (sum_fits (some n) (omega arith)) i.1)
  where
    own : (n : ℕ) → n ≤ 16777216 → limit_of n ≡ some n
    own n h = elim (number_is n) [ inl p ↦ absurd (let z = p.0 in omega arith) | inr p ↦ p ]

-- ---- one call

module _ (q : Lent.Pools) (ws bs : List ℕ) (h : Held) (c : Carries q ws bs h) where
  run_is : (n : ℕ) → limit_fits n ≡ true → slice q n ws bs ≡ left_by q c.s bs (run_slice_words ws c.s n)
  unfolding slice slice_image run_held left_by pick
  run_is n l = rw (carries_room q ws bs h c, carries_resumable q ws bs h c, steps_are n, l, carries_length q ws bs h c, c.kept) refl

  -- a call is its run
  pub call_is : (s : List ℕ) → c.s ≡ s → (n : ℕ) → limit_fits n ≡ true → slice q n ws bs ≡ left_by q s bs (run_slice_words ws s n)
  call_is s e n l = subst (λ (x : List ℕ). slice q n ws bs ≡ left_by q x bs (run_slice_words ws x n)) e (run_is n l)

-- the run that a slice leaves, where it is not refused: of the same file's bytes s
pub record Onward (q : Lent.Pools) (s bs : List ℕ) (f : File FlatNet) (w : List ℕ) : Type 0 where
  pub e : Engine
  pub carries : Carries q w bs (record { file = f; engine = e })
  pub same : carries.s ≡ s

module _ (q : Lent.Pools) (ws bs : List ℕ) (h : Held) (c : Carries q ws bs h) (n j : ℕ) (l : limit_fits n ≡ true) (t : (run_slice_words ws c.s n).is ≡ Rested j) where
  pub slice_onward : Onward q c.s bs h.file (run_slice_words ws c.s n).ws
  unfolding left_by on_ran
  slice_onward =
      let x : Lent = record { is = Done j; ws = (run_slice_words ws c.s n).ws; bs = bs } in
      let y : slice q n ws bs ≡ x = call_is q ws bs h c c.s refl n l ∙ rw t refl in
      let z : Outcomes steps_told q ws bs (slice q n ws bs) (Slices n (need true 4 (ok h)))
      = subst (λ (b : Bool). Outcomes steps_told q ws bs (slice q n ws bs) (Slices n (need b 4 (ok h)))) l (slice_tells q ws bs h c n) in
      go (run_slice (limit_of n) h.engine) (subst (λ (x : Lent). Outcomes steps_told q ws bs x (Runs h.file (run_slice (limit_of n) h.engine))) y z)
    where
      go : (r : Result (Engine × ℕ)) → Outcomes steps_told q ws bs (record { is = Done j; ws = (run_slice_words ws c.s n).ws; bs = bs }) (Runs h.file r)
          → Onward q c.s bs h.file (run_slice_words ws c.s n).ws
      go (refuse k) o = absurd (let z : ◌≡◌ {A = ℕ} 0 1 = let y = o.0 in cc in omega arith)
      go (ok r) o =
          let g : Held = record { file = h.file; engine = r.0 } in
          record { e = r.0; carries = o.1.0; same = sym (carries_bytes q _ bs g o.1.0) ∙ carries_bytes q ws bs h c }
