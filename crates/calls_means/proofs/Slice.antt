-- `slice-is-engine`: a slice on words and bytes that carry a run answers what level Engine's does, and leaves both as they were, zeros, or
use Rattle.std.specs.Prelude.{ℕ, ◌≡◌, refl, Bool, true, false, ◌||◌, List, length, eqb, leb}
use Rattle.std.proofs.Common.{sym, ap, ◌∙◌, subst, arith, eqb-true}
use Rattle.std.proofs.Math.Option.{Option, none, some}
use Rattle.net_file.specs.Lists.{Result, ok, refuse, need}
use Rattle.net_file.specs.Values.{FlatNet, File, no_limit}
use Rattle.net_file.specs.Read.{limit_of}
use Rattle.net_file.specs.Checks.{flat, limit_fits, write}
use Rattle.definitions.specs.Lists.{◌>>=◌}
use Rattle.definitions.specs.State.{Pools, Engine}
use Rattle.definitions.specs.Run.{run_slice}
use Rattle.definitions.specs.Calls
use Rattle.definitions.specs.Calls.{Held, Workspace, unchanged, zeros, image, Outcome, resume}
use Rattle.reached_laws.specs.Accepted.{slice_reached}
use Rattle.words.specs.Choose.{pick, if_eq}
use Rattle.run_slice.specs.Run.{slice as run_slice_words}
use Rattle.lent.specs.Lent.{Lent, zero_words, zero_bytes}
use Rattle.lent.specs.declared.Pools as Lent
use Rattle.lent.specs.declared.Answer.TheVariants.{Done, Refused}
use Rattle.slicing.specs.Slicing.{steps_fit, run_held, slice_image, slice}
use Rattle.slicing.specs.Ways.{held_ran, held_refused, image_runs, image_steps, slice_room}
use Rattle.run_means.specs.Run.{Most}
use Rattle.head_kept.proofs.Run.{slice_head}
use Rattle.visiting_means.specs.Slice as Visiting
use Rattle.visiting_means.specs.Slice.{SliceEnds}
use Rattle.start_means.specs.Start.{pools_of}
use Rattle.optimize_means.specs.Room.{space}
use Rattle.calls_means.specs.Carries.{Carries, Outcomes, carries_room, carries_length, carries_bytes, carries_resumable, carries_resumes}
use Rattle.calls_means.specs.Slice.{steps_told, steps_are, most_of, Runs, Slices, sliced, ran_carries}

module _ (q : Lent.Pools) (ws bs : List ℕ) (h : Held) (c : Carries q ws bs h) (n : ℕ) where
  -- 9 to 14 leave zeros
  held_slices : Outcomes steps_told q ws bs (run_held q n ws bs) (Runs h.file (run_slice (limit_of n) h.engine))
  held_slices =
      go (run_slice (limit_of n) h.engine) refl (Visiting.slice_is_engine c.s c.are h.file c.reads ws h.engine c.holds (limit_of n) n (most_of n))
    where
      go : (r : Result (Engine × ℕ)) → run_slice (limit_of n) h.engine ≡ r → SliceEnds c.s h.file (run_slice_words ws c.s n) r
          → Outcomes steps_told q ws bs (run_held q n ws bs) (Runs h.file r)
      go (refuse m) i t =
          let l = run_slice_words ws c.s n in
          let y : ◌≡◌ {A = Lent} (record { is = Refused m; ws = zero_words q l.ws; bs = zero_bytes (length c.s) bs }) (run_held q n ws bs)
          = held_refused q n (length c.s) t.0 m ws l.ws _ bs _ c.s l.is (sym (carries_length q ws bs h c)) (sym c.kept) refl refl t.1 refl refl in
          let b : zero_bytes (length c.s) bs ≡ zero_bytes (length (write flat h.file)) bs = ap (λ (x : List ℕ). zero_bytes (length x) bs) (sym (carries_bytes q ws bs h c)) in
          subst (λ (x : Lent). Outcomes steps_told q ws bs x (refuse m, zeros (length (write flat h.file)))) y (refl, (l.ws, refl, b))
      go (ok x) i t =
          let l = run_slice_words ws c.s n in
          let y : ◌≡◌ {A = Lent} (record { is = Done x.1; ws = l.ws; bs = bs }) (run_held q n ws bs)
          = held_ran q n (length c.s) x.1 ws l.ws bs c.s l.is (sym (carries_length q ws bs h c)) (sym c.kept) refl refl t.0 in
          subst (λ (z : Lent). Outcomes steps_told q ws bs z (ok x.1, image (record { file = h.file; engine = x.0 }))) y (refl, ((ran_carries q ws bs h c n) x i t, refl))

  -- 4
  image_slices : (t : Bool) → limit_fits n ≡ t → Outcomes steps_told q ws bs (slice_image q n ws bs) (Slices n (need t 4 (ok h)))
  image_slices false e =
      subst (λ (x : Lent). Outcomes steps_told q ws bs x (refuse 4, unchanged))
      (image_steps q n ws bs true false (sym (carries_resumable q ws bs h c)) refl (sym (steps_are n ∙ e)) refl) (refl, (refl, refl))
  image_slices true e =
      let x = run_held q n ws bs in
      subst (λ (y : Lent). Outcomes steps_told q ws bs y (Runs h.file (run_slice (limit_of n) h.engine)))
      (image_runs q n ws x.ws bs x.bs true true x.is (sym (carries_resumable q ws bs h c)) refl (sym (steps_are n ∙ e)) refl refl refl refl) held_slices

  -- by level Engine's tests
  pub slice_tells : Outcomes steps_told q ws bs (slice q n ws bs) (Slices n (need (limit_fits n) 4 (ok h)))
  slice_tells =
      let x = slice_image q n ws bs in
      let y = slice_room q n ws x.ws bs x.bs true x.is (sym (carries_room q ws bs h c)) refl refl refl refl in
      subst (λ (z : Lent). Outcomes steps_told q ws bs z (Slices n (need (limit_fits n) 4 (ok h)))) y (image_slices (limit_fits n) refl)

  -- for a workspace that goes on with this run
  pub slice_resumes : (w : Workspace) → resume w (pools_of q) ≡ ok h → Outcomes steps_told q ws bs (slice q n ws bs) (Calls.slice w (pools_of q) n)
  slice_resumes w e = subst (Outcomes steps_told q ws bs (slice q n ws bs)) (sym (sliced n w (pools_of q) h e)) slice_tells

  -- `slice-is-engine`
  pub slice_is_engine : Outcomes steps_told q ws bs (slice q n ws bs) (Calls.slice (space ws bs (some h)) (pools_of q) n)
  slice_is_engine = slice_resumes (space ws bs (some h)) (carries_resumes q ws bs h c)
