-- `finish-is-engine`: a finish on words and bytes that carry a run answers what level Engine's does, writes its bytes, and leaves words and
-- bytes as they were, or zeros.
use Rattle.std.specs.Prelude.{ℕ, ◌<◌, List, length}
use Rattle.std.proofs.Math.Path.{◌≡◌, refl, subst}
use Rattle.std.proofs.Common.{sym, ap}
use Rattle.std.proofs.Math.Bool.{true}
use Rattle.std.proofs.Math.Option.{some}
use Rattle.net_file.specs.Lists.{Result, ok, refuse}
use Rattle.net_file.specs.Values.{FlatNet, File}
use Rattle.net_file.specs.Checks.{flat, write}
use Rattle.definitions.specs.Finish
use Rattle.definitions.specs.Calls
use Rattle.definitions.specs.Calls.{Held, Workspace, unchanged, zeros, Outcome, resume, deliver, written}
use Rattle.lent.specs.Lent.{zero_words, zero_bytes}
use Rattle.lent.specs.declared.Pools as Lent
use Rattle.lent.specs.declared.Answer.TheVariants.{Done, Refused}
use Rattle.finishing.specs.Finishing.{Given, run_result, delivered, finish_image, finish}
use Rattle.finishing.specs.Ways.{delivered_done, delivered_refused, image_delivered, finish_room}
use Rattle.finish_means.specs.Delivered.{Delivers}
use Rattle.start_means.specs.Start.{pools_of}
use Rattle.optimize_means.specs.Finished.{run_delivers}
use Rattle.optimize_means.specs.Room.{space}
use Rattle.calls_means.specs.Carries.{Carries, answer_by, Leaves, carries_room, carries_length, carries_bytes, carries_resumable, carries_resumes}

-- a finish's answer is the number of its bytes
abbrev pub bytes_told : List ℕ → ℕ
bytes_told bs = length bs

-- answer, output and what is left are those of level Engine
abbrev pub Finishes : Lent.Pools → List ℕ → List ℕ → List ℕ → Given → Outcome (List ℕ) → Type 0
Finishes q ws bs out x o = (x.is ≡ answer_by bytes_told o.0) × (x.out ≡ written o.0 out) × Leaves q ws bs x.ws x.bs o.1

-- what is left of a run, by what is delivered
abbrev Ends : File FlatNet → Result (List ℕ) → Outcome (List ℕ)
Ends f r = elim r as (λ _. Outcome (List ℕ)) [ refuse k ↦ (refuse k, unchanged) | ok b ↦ (ok b, zeros (length (write flat f))) ]

-- and by whether there is one
abbrev pub Answers : ℕ → Result Held → Outcome (List ℕ)
Answers room r = elim r as (λ _. Outcome (List ℕ)) [ refuse k ↦ (refuse k, unchanged) | ok h ↦ Ends h.file (deliver room (Finish.result h.file h.engine)) ]

module _ (q : Lent.Pools) (ws bs : List ℕ) (h : Held) (c : Carries q ws bs h) (out : List ℕ) (size : length out < 18446744073709551616) where
  -- 15 leaves all as it was, a result leaves zeros
  held_finishes : Finishes q ws bs out (delivered q ws bs out) (Ends h.file (deliver (length out) (Finish.result h.file h.engine)))
  held_finishes =
      go (deliver (length out) (Finish.result h.file h.engine))
      (run_delivers c.s c.are h.file c.reads (pools_of q) c.fit ws h.engine c.holds c.reached out size)
    where
      go : (r : Result (List ℕ)) → Delivers ws out (run_result ws c.s out) r → Finishes q ws bs out (delivered q ws bs out) (Ends h.file r)
      go (refuse n) t =
          let d = run_result ws c.s out in
          let y : ◌≡◌ {A = Given} (record { is = Refused n; ws = d.ws; bs = bs; out = d.out }) (delivered q ws bs out)
          = delivered_refused q n (length c.s) ws d.ws bs c.s out d.out d.is (sym (carries_length q ws bs h c)) (sym c.kept) refl refl refl t.0 in
          subst (λ (x : Given). Finishes q ws bs out x (refuse n, unchanged)) y (refl, t.1, (t.2, refl))
      go (ok b) t =
          let d = run_result ws c.s out in
          let y : ◌≡◌ {A = Given} (record { is = Done (length b); ws = zero_words q d.ws; bs = zero_bytes (length c.s) bs; out = d.out }) (delivered q ws bs out)
          = delivered_done q (length b) (length c.s) ws d.ws _ bs _ c.s out d.out d.is (sym (carries_length q ws bs h c)) (sym c.kept) refl refl refl t.0 refl refl in
          let z : zero_bytes (length c.s) bs ≡ zero_bytes (length (write flat h.file)) bs = ap (λ (x : List ℕ). zero_bytes (length x) bs) (sym (carries_bytes q ws bs h c)) in
          subst (λ (x : Given). Finishes q ws bs out x (ok b, zeros (length (write flat h.file)))) y (refl, t.1, (d.ws, refl, z))

  -- for a workspace that goes on with this run
  pub finish_resumes : (w : Workspace) → resume w (pools_of q) ≡ ok h → Finishes q ws bs out (finish q ws bs out) (Calls.finish w (pools_of q) (length out))
  unfolding Calls.finish
  finish_resumes w e =
      let d = delivered q ws bs out in
      let i = finish_image q ws bs out in
      let x : ◌≡◌ {A = Given} d i = image_delivered q ws d.ws bs d.bs out d.out true d.is (sym (carries_resumable q ws bs h c)) refl refl refl refl refl in
      let y : ◌≡◌ {A = Given} i (finish q ws bs out) = finish_room q ws i.ws bs i.bs out i.out true i.is (sym (carries_room q ws bs h c)) refl refl refl refl refl in
      subst (λ (r : Result Held). Finishes q ws bs out (finish q ws bs out) (Answers (length out) r)) (sym e)
      (subst (λ (z : Given). Finishes q ws bs out z (Answers (length out) (ok h))) y (subst (λ (z : Given). Finishes q ws bs out z (Answers (length out) (ok h))) x held_finishes))

  -- `finish-is-engine`
  pub finish_is_engine : Finishes q ws bs out (finish q ws bs out) (Calls.finish (space ws bs (some h)) (pools_of q) (length out))
  finish_is_engine = finish_resumes (space ws bs (some h)) (carries_resumes q ws bs h c)
