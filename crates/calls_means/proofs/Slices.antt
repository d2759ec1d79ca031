-- `slices-are-engine`: slices one after another on words and bytes that carry a run, up to the first that is refused, answer what level
use Rattle.std.specs.Prelude.{ℕ, ◌+◌, ◌≡◌, Bool}
use Rattle.std.proofs.Math.Path.{refl, ap, subst}
use Rattle.std.proofs.Common.{sym, ◌∙◌}
use Rattle.std.proofs.Math.Bool.{true, false}
use Rattle.std.proofs.Math.Option.{Option, none, some}
use mathlib.Core.List.{List, [], ◌∷◌, map}
use Rattle.std.proofs.Math.ListN.{length}
use Rattle.list_laws.specs.Tests.{both, both_are}
use Rattle.net_file.specs.Lists.{Result, ok, refuse, need, all}
use Rattle.net_file.specs.Values.{FlatNet, File}
use Rattle.net_file.specs.Read.{limit_of}
use Rattle.net_file.specs.Write.{limit_number}
use Rattle.net_file.specs.Checks.{flat, limit_fits, write}
use Rattle.definitions.specs.Lists.{◌>>=◌}
use Rattle.definitions.specs.State.{Pools, Engine}
use Rattle.definitions.specs.Run.{run_slice}
use Rattle.definitions.specs.Calls.{Held, Workspace, Outcome, same_pools, resume, after}
use Rattle.slice_laws.specs.Sums.{total}
use Rattle.reached_laws.specs.Calls.{onward, slice_calls, resumes, SumFits}
use Rattle.reached_laws.proofs.Accepted.{slice_calls_compose}
use Rattle.lent.specs.Lent.{Lent, zero_words, zero_bytes}
use Rattle.lent.specs.declared.Pools as Lent
use Rattle.lent.specs.declared.Answer.{Answer}
use Rattle.lent.specs.declared.Answer.TheVariants.{Done, Refused}
use Rattle.finishing.specs.Finishing.{on_answer}
use Rattle.slicing.specs.Slicing.{slice}
use Rattle.start_means.specs.Start.{pools_of}
use Rattle.optimize_means.specs.Room.{space}
use Rattle.calls_means.specs.Carries.{Carries, answer_by, Outcomes, bytes_same, carries_pools, carries_resumes}
use Rattle.calls_means.specs.Slice.{steps_told, Runs, Slices, sliced}
use Rattle.calls_means.proofs.Slice.{slice_tells, slice_resumes}
use Rattle.calls_means.specs.Slices.{add_steps, go_on, slice_calls_words, Keeps, Tells, added, resumes_on, Onward, Goes}

module _ (q : Lent.Pools) where
  module _ (ns : List ℕ) (next : (Onward q) ns) (ws bs : List ℕ) (h : Held) (c : Carries q ws bs h) (w : Workspace) (e : resume w (pools_of q) ≡ ok h) where
    ran_on : (x : Lent) (r : Result (Engine × ℕ)) → (Goes q ns next ws bs h c w e) x (Runs h.file r)
    unfolding go_on on_answer after
    ran_on x (refuse k) t = rw t.0 (refl, (t.1.0, length (write flat h.file), t.1.1, t.1.2))
    ran_on x (ok y) t =
        let g : Held = record { file = h.file; engine = y.0 } in
        let d : Carries q x.ws x.bs g = t.1.0 in
        let b : x.bs ≡ bs = bytes_same q ws bs x.ws x.bs h g c d refl t.1.1 in
        let w₁ : Workspace = record { fits = w.fits; held = some g } in
        let i = next x.ws x.bs g d w₁ (resumes_on w (pools_of q) h g e refl (carries_pools q x.ws x.bs g d)) in
        let z = slice_calls_words q ns x.ws x.bs in
        let u = slice_calls w₁ (pools_of q) ns in
        rw t.0 (added y.1 z.is u.0 i.0, keeps u.1.held z (add_steps y.1 z.is) x.bs b i.1)
      where
        keeps : (o : Option Held) (z : Lent) (a : Answer) (b : List ℕ) → b ≡ bs → Keeps q b z o → Keeps q bs (record { is = a; ws = z.ws; bs = z.bs }) o
        keeps none z a b e k = (k.0, k.1, k.2, k.3 ∙ ap (zero_bytes k.1) e)
        keeps (some g) z a b e k = k

    went_on : (n : ℕ) (x : Lent) (t : Bool) → (Goes q ns next ws bs h c w e) x (Slices n (need t 4 (ok h)))
    unfolding go_on on_answer after
    went_on n x true t = ran_on x (run_slice (limit_of n) h.engine) t
    went_on n x false t =
        rw t.0 (refl, subst (Keeps q bs (record { is = Refused 4; ws = x.ws; bs = x.bs })) (sym (resumes w (pools_of q) h e).held) (subst (λ (b : List ℕ). Carries q x.ws b h) (sym t.1.1) (subst (λ (v : List ℕ). Carries q v bs h) (sym t.1.0) c)))

  pub slices_resume : (ns : List ℕ) → (Onward q) ns
  unfolding slice_calls_words slice_calls
  slices_resume [] ws bs h c w e = (refl, subst (Keeps q bs (record { is = Done 0; ws = ws; bs = bs })) (sym (resumes w (pools_of q) h e).held) c)
  slices_resume (n ∷ ns) ws bs h c w e =
      subst (λ (o : Outcome ℕ). Tells q bs (go_on (slice q n ws bs) (λ w' b. slice_calls_words q ns w' b)) (onward w (λ w'. slice_calls w' (pools_of q) ns) o)) (sym (sliced n w (pools_of q) h e))
      (went_on ns (slices_resume ns) ws bs h c w e n (slice q n ws bs) (limit_fits n) (slice_tells q ws bs h c n))

  module _ (ws bs : List ℕ) (h : Held) (c : Carries q ws bs h) (ns : List ℕ) where
    -- `slices-are-engine`
    pub slices_are_engine : Tells q bs (slice_calls_words q ns ws bs) (slice_calls (space ws bs (some h)) (pools_of q) ns)
    slices_are_engine = slices_resume ns ws bs h c (space ws bs (some h)) (carries_resumes q ws bs h c)

    -- slices whose numbers add up to at most 16,777,216, or to none, answer what one slice of their sum answers
    pub slices_answer : all limit_fits ns ≡ true → SumFits (total (map limit_of ns))
        → (slice_calls_words q ns ws bs).is ≡ (slice q (limit_number (total (map limit_of ns))) ws bs).is
    slices_answer l s =
        let w = space ws bs (some h) in
        let e = carries_resumes q ws bs h c in
        let m = limit_number (total (map limit_of ns)) in
        let one = slice_calls_compose c.s c.are h.file c.reads (pools_of q) c.fit w h ns e c.reached l s in
        slices_are_engine.0 ∙ ap (λ (x : Result ℕ × Workspace). answer_by steps_told x.0) one ∙ sym (slice_resumes q ws bs h c m w e).0
