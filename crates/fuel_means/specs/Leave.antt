-- `slices-leave`: slices one after another on words and bytes that carry a run, up to the first that is refused, answer what one slice of
-- their sum answers, and leave the same words and bytes.
use Rattle.std.specs.Prelude.{ℕ, ◌+◌, ◌≤◌, ◌≡◌, true}
use Rattle.std.proofs.Math.Path.{refl, sym, ap, subst}
use Rattle.std.proofs.Common.{◌∙◌}
use Rattle.std.proofs.Math.Logic.{inl, inr}
use Rattle.std.proofs.Math.Bool.{false}
use Rattle.std.proofs.Math.Option.{Option, none, some}
use mathlib.Core.List.{List, [], ◌∷◌, map}
use native.Mathlib.Omega.{arith}
use Rattle.list_laws.specs.Tests.{both}
use Rattle.net_file.specs.Lists.{all, sum}
use Rattle.net_file.specs.Values.{max_steps, no_limit}
use Rattle.net_file.specs.Read.{limit_of}
use Rattle.net_file.specs.Write.{limit_number}
use Rattle.net_file.specs.Checks.{limit_fits}
use Rattle.definitions.specs.Calls.{Held}
use Rattle.good_laws.specs.Good.{rest}
use Rattle.slice_laws.specs.Sums.{◌⊕◌, total}
use Rattle.reached_laws.specs.Calls.{SumFits}
use Rattle.words.specs.Left.{Left}
use Rattle.run_slice.specs.Run.{on_ran}
use Rattle.run_slice.specs.Run.{slice as run_slice}
use Rattle.run_slice.specs.declared.Ran.{Ran}
use Rattle.run_slice.specs.declared.Ran.TheVariants.{Rested}
use Rattle.run_slice.specs.declared.Ran.TheVariants.{Refused as Ran-as-Refused}
use Rattle.run_laws.specs.Course.{alive, at_rest}
use Rattle.run_laws.specs.Shift.{later, longer}
use Rattle.lent.specs.Lent.{Lent}
use Rattle.lent.specs.declared.Pools as Lent
use Rattle.lent.specs.declared.Answer.TheVariants.{Done}
use Rattle.finishing.specs.Finishing.{on_answer}
use Rattle.slicing.specs.Slicing.{slice}
use Rattle.acts_means.specs.Holds.{Holds}
use Rattle.calls_means.specs.Carries.{Carries}
use Rattle.calls_means.specs.Slices.{add_steps, go_on, slice_calls_words}
use Rattle.fuel_means.specs.Lasts.{slice_refused, none_dead, slice_dead, slice_of_zero, slice_and_slice, slice_and_none}
use Rattle.fuel_means.specs.Call.{left_by, sum_fits, number_small, fits_small, number_is, sum_is, call_is, Onward, slice_onward}

-- ---- calls in order

-- what a call leaves, with j steps more
abbrev pub more_steps : ℕ → Lent → Lent
more_steps j y = record { is = add_steps j y.is; ws = y.ws; bs = y.bs }

pub steps_added : (q : Lent.Pools) (s bs : List ℕ) (j : ℕ) (i : Ran) (w : List ℕ)
    → more_steps j (left_by q s bs (record { is = i; ws = w })) ≡ left_by q s bs (later j (record { is = i; ws = w }))
unfolding left_by on_ran add_steps on_answer later longer
steps_added q s bs j (Rested k) w = refl
steps_added q s bs j (Ran-as-Refused k m) w = refl

-- a run that rests after j steps, and then what another leaves: both in one
pub joined : (q : Lent.Pools) (s bs : List ℕ) (a r : Left Ran) (j : ℕ) (calls : List ℕ → List ℕ → Lent) → a.is ≡ Rested j → calls a.ws bs ≡ left_by q s bs r
    → go_on (left_by q s bs a) calls ≡ left_by q s bs (later j r)
unfolding left_by on_ran go_on on_answer
joined q s bs a r j calls t e = rw (t, e) (steps_added q s bs j r.is r.ws)

-- a run that is refused is the last
pub stopped : (q : Lent.Pools) (s bs : List ℕ) (a : Left Ran) (j r : ℕ) (calls : List ℕ → List ℕ → Lent) → a.is ≡ Ran-as-Refused j r → go_on (left_by q s bs a) calls ≡ left_by q s bs a
unfolding left_by on_ran go_on on_answer
stopped q s bs a j r calls t = rw t refl

module _ (q : Lent.Pools) where
  -- on words with nothing to do slices take no step
  pub idle_calls : (ns ws bs : List ℕ) (h : Held) → Carries q ws bs h → alive ws ≡ false → all limit_fits ns ≡ true → slice_calls_words q ns ws bs ≡ record { is = Done 0; ws = ws; bs = bs }
  unfolding slice_calls_words go_on on_answer add_steps left_by on_ran
  idle_calls [] ws bs h c d l = refl
  idle_calls (n ∷ ns) ws bs h c d l =
      let b = both (limit_fits n) (all limit_fits ns) l in
      rw (call_is q ws bs h c c.s refl n b.0, slice_dead ws c.s n d, idle_calls ns ws bs h c d b.1) refl

  module _ (n : ℕ) (ns ws bs : List ℕ) (h : Held) (c : Carries q ws bs h) (l : limit_fits n ≡ true) (m : all limit_fits ns ≡ true) where
    -- the first run
    abbrev pub a : Left Ran
    a = run_slice ws c.s n

    -- it is refused: N is refused so
    pub refused_leave : (N j r : ℕ) → n ≤ N → N ≤ 4294967295 → limit_fits N ≡ true → a.is ≡ Ran-as-Refused j r → slice_calls_words q (n ∷ ns) ws bs ≡ slice q N ws bs
    unfolding slice_calls_words
    refused_leave N j r b k f t =
        ap (λ (x : Lent). go_on x (λ w b. slice_calls_words q ns w b)) (call_is q ws bs h c c.s refl n l)
        ∙ stopped q c.s bs a j r (λ w b. slice_calls_words q ns w b) t
        ∙ ap (left_by q c.s bs) (sym (slice_refused c.s c.are h.file c.reads ws h.engine c.holds n N j r b k t))
        ∙ sym (call_is q ws bs h c c.s refl N f)

    -- it rests, and the other slices leave what the run r does: N is both
    pub rested_leave : (N j : ℕ) (r : Left Ran) → limit_fits N ≡ true → a.is ≡ Rested j → slice_calls_words q ns a.ws bs ≡ left_by q c.s bs r
        → run_slice ws c.s N ≡ later j r → slice_calls_words q (n ∷ ns) ws bs ≡ slice q N ws bs
    unfolding slice_calls_words
    rested_leave N j r f t e g =
        ap (λ (x : Lent). go_on x (λ w b. slice_calls_words q ns w b)) (call_is q ws bs h c c.s refl n l)
        ∙ joined q c.s bs a r j (λ w b. slice_calls_words q ns w b) t e ∙ ap (left_by q c.s bs) (sym g) ∙ sym (call_is q ws bs h c c.s refl N f)

    -- n is none
    pub leave_none : n ≡ no_limit → (i : Ran) → a.is ≡ i → slice_calls_words q (n ∷ ns) ws bs ≡ slice q n ws bs
    unfolding left_by on_ran later longer
    leave_none e (Ran-as-Refused j r) t = refused_leave n j r (omega arith) (omega arith) l t
    leave_none e (Rested j) t =
        let o = slice_onward q ws bs h c n j l t in
        let d : alive a.ws ≡ false = subst (λ (x : ℕ). (run_slice ws c.s x).is ≡ Rested j → alive (run_slice ws c.s x).ws ≡ false) (sym e)
        (none_dead c.s c.are h.file c.reads ws h.engine c.holds j) t in
        let u : a.is ≡ Rested (j + 0) = t ∙ ap (λ (x : ℕ). Rested x) (omega arith) in
        let p : a ≡ later j (at_rest 0 a.ws) = λ i. record { is = u i; ws = a.ws } in
        rested_leave n j (at_rest 0 a.ws) l t (idle_calls ns a.ws bs _ o.carries d m) p

    -- that the other slices are one of v
    abbrev pub Next : Option ℕ → Type 0
    Next v = (w : List ℕ) (g : Held) → Carries q w bs g → SumFits v → slice_calls_words q ns w bs ≡ slice q (limit_number v) w bs

    -- then all are one of u and v
    abbrev pub Goal : Option ℕ → Option ℕ → Type 0
    Goal u v = SumFits (u ⊕ v) → slice_calls_words q (n ∷ ns) ws bs ≡ slice q (limit_number (u ⊕ v)) ws bs

    pub longer_sum : (v : Option ℕ) → n ≤ 4294967295 → n ≤ limit_number (some n ⊕ v)
    unfolding limit_number
    longer_sum none b = b
    longer_sum (some k) b = omega arith

    pub leave_some : (v : Option ℕ) → Next v → n ≤ 4294967295 → (i : Ran) → a.is ≡ i → Goal (some n) v
    unfolding limit_number
    leave_some v next b (Ran-as-Refused j r) t f =
        refused_leave (limit_number (some n ⊕ v)) j r (longer_sum v b) (number_small (some n ⊕ v) f) (sum_fits (some n ⊕ v) f) t
    leave_some v next b (Rested j) t f = by v next f
      where
        o : Onward q c.s bs h.file a.ws
        o = slice_onward q ws bs h c n j l t

        k : Held
        k = record { file = h.file; engine = o.e }

        held : Holds c.s h.file rest a.ws o.e
        held = subst (λ (s : List ℕ). Holds s h.file rest a.ws o.e) o.same o.carries.holds

        others : (v : Option ℕ) → Next v → SumFits v → slice_calls_words q ns a.ws bs ≡ left_by q c.s bs (run_slice a.ws c.s (limit_number v))
        others v next f = next a.ws k o.carries f ∙ call_is q a.ws bs k o.carries c.s o.same (limit_number v) (sum_fits v f)

        by : (v : Option ℕ) → Next v → Goal (some n) v
        by none next f =
            rested_leave 4294967295 j (run_slice a.ws c.s 4294967295) (sum_fits none f) t (others none next f)
            (slice_and_none c.s c.are h.file c.reads ws h.engine c.holds n j a refl t o.e held b)
        by (some x) next f =
            let y : x ≤ max_steps = omega arith in
            rested_leave (n + x) j (run_slice a.ws c.s x) (sum_fits (some (n + x)) f) t (others (some x) next y)
            (slice_and_slice c.s c.are h.file c.reads ws h.engine c.holds n j a refl t o.e held x (omega arith))

    pub leave_by : (v : Option ℕ) → Next v → Goal (limit_of n) v
    unfolding limit_number
    leave_by v next = elim (number_is n) [
      | inl p ↦ subst (λ (u : Option ℕ). Goal u v) (sym p.1) (λ f. leave_none p.0 a.is refl ∙ ap (λ (x : ℕ). slice q x ws bs) p.0)
      | inr p ↦ subst (λ (u : Option ℕ). Goal u v) (sym p) (leave_some v next (fits_small n l) a.is refl)
    ]

  -- `slices-leave`
  pub slices_leave : (ns ws bs : List ℕ) (h : Held) → Carries q ws bs h → all limit_fits ns ≡ true → SumFits (total (map limit_of ns))
      → slice_calls_words q ns ws bs ≡ slice q (limit_number (total (map limit_of ns))) ws bs
  unfolding slice_calls_words limit_number left_by on_ran
  slices_leave [] ws bs h c l f = sym (call_is q ws bs h c c.s refl 0 (sum_fits (some 0) f) ∙ ap (left_by q c.s bs) (slice_of_zero ws c.s))
  slices_leave (n ∷ ns) ws bs h c l f =
      let b = both (limit_fits n) (all limit_fits ns) l in
      leave_by n ns ws bs h c b.0 b.1 (total (map limit_of ns)) (λ w g d s. slices_leave ns w bs g d b.1 s) f
