-- The one-call form past the checks: load, one slice of none and finish on the words give what level Engine's `optimized` and `deliver` give.
use Rattle.std.specs.Prelude.{ℕ, ◌<◌, ◌≤◌, true, List, length}
use Rattle.std.proofs.Math.Path.{◌≡◌, refl, subst}
use Rattle.std.proofs.Common.{ap, arith}
use Rattle.std.proofs.Math.Option.{none}
use Rattle.net_file.specs.Lists.{Result, ok, refuse}
use Rattle.net_file.specs.Values.{FlatNet, File}
use Rattle.net_file.specs.Checks.{flat, read}
use Rattle.net_file_laws.specs.Bytes.{Bytes}
use Rattle.definitions.specs.Lists.{◌>>=◌}
use Rattle.definitions.specs.State.{Pools, Engine}
use Rattle.definitions.specs.Load.{load}
use Rattle.definitions.specs.Run.{run_slice}
use Rattle.definitions.specs.Finish
use Rattle.definitions.specs.Calls.{pools_fit, deliver, optimized, written}
use Rattle.good_laws.specs.Good.{rest}
use Rattle.fuel_laws.specs.Reached.{Reached, loads}
use Rattle.reached_laws.specs.Accepted.{slice_reached}
use Rattle.run_slice.specs.Run as Words
use Rattle.write_nodes.specs.Wrote.{Wrote}
use Rattle.lent.specs.Lent.{words_of}
use Rattle.lent.specs.declared.Pools as Lent
use Rattle.lent.specs.declared.Answer.{Answer}
use Rattle.lent.specs.declared.Answer.TheVariants.{Done, Refused}
use Rattle.begin.specs.Begin.{start, loaded}
use Rattle.finishing.specs.Finishing.{run_result}
use Rattle.optimising.specs.Optimising.{optimize_run, optimize_loaded}
use Rattle.optimising.specs.Ways.{run_finished, run_refused, loaded_runs, load_refused}
use Rattle.acts_means.specs.Holds.{Holds}
use Rattle.visiting_means.specs.Slice.{SliceEnds, slice_is_engine}
use Rattle.start_means.specs.Start.{pools_of, start_fresh}
use Rattle.finish_means.specs.Delivered.{Delivers}
use Rattle.loaded_means.specs.Held.{LoadEnds, load_holds}
use Rattle.optimize_means.specs.Finished.{run_delivers}

-- a call's answer as the words give it: the number of bytes, or the number by which it is refused
abbrev pub answer_of : Result (List ℕ) → Answer
answer_of (ok bs) = Done (length bs)
answer_of (refuse r) = Refused r

-- answer and output are those of level Engine
abbrev pub Gives : List ℕ → Wrote Answer → Result (List ℕ) → Type 0
Gives out x r = (x.is ≡ answer_of r) × (x.out ≡ written r out)

delivers_gives : (ws out : List ℕ) (x : Wrote Answer) (d : Result (List ℕ)) → Delivers ws out x d → Gives out x d
delivers_gives ws out x (ok bs) h = h
delivers_gives ws out x (refuse r) h = (h.0, h.1)

-- a refusal writes no output
pub unwritten : (out : List ℕ) (n : ℕ) → out ≡ written (refuse n) out
unfolding written
unwritten out n = refl

module _ (s : List ℕ) (is : Bytes s) (f : File FlatNet) (accepted : read flat s ≡ ok f) where
  module _ (p : Pools) (fit : pools_fit p ≡ true) (out : List ℕ) (size : length out < 18446744073709551616) where
    -- a run that was loaded
    run_gives : (ws : List ℕ) (e : Engine) → Holds s f rest ws e → Reached p f e
        → Gives out (optimize_run ws s out) ((run_slice none e >>= λ r. ok (Finish.result f r.0)) >>= deliver (length out))
    run_gives ws e h reached = go (run_slice none e) refl (slice_is_engine s is f accepted ws e h none 4294967295 refl)
      where
        go : (r : Result (Engine × ℕ)) → run_slice none e ≡ r → SliceEnds s f (Words.slice ws s 4294967295) r
            → Gives out (optimize_run ws s out) ((r >>= λ x. ok (Finish.result f x.0)) >>= deliver (length out))
        go (refuse n) q t =
            let l = Words.slice ws s 4294967295 in
            let y : ◌≡◌ {A = Wrote Answer} (record { is = Refused n; ws = l.ws; out = out }) (optimize_run ws s out) = run_refused ws l.ws s out t.0 n l.is refl refl t.1 in
            subst (λ (x : Wrote Answer). Gives out x (refuse n)) y (refl, unwritten out n)
        go (ok x) q t =
            let l = Words.slice ws s 4294967295 in
            let d = run_result l.ws s out in
            let y : ◌≡◌ {A = Wrote Answer} (record { is = d.is; ws = d.ws; out = d.out }) (optimize_run ws s out)
            = run_finished ws l.ws d.ws s out d.out x.1 l.is d.is refl refl t.0 refl refl refl in
            subst (λ (z : Wrote Answer). Gives out z (deliver (length out) (Finish.result f x.0))) y
            (delivers_gives l.ws out d (deliver (length out) (Finish.result f x.0))
            (run_delivers s is f accepted p fit l.ws x.0 t.1 (slice_reached p f none x.0 x.1 reached q) out size))

  -- begin's load, then the run
  module _ (q : Lent.Pools) (fit : pools_fit (pools_of q) ≡ true) (ws : List ℕ) (room : words_of q ≤ length ws)
      (few_nodes : q.nodes ≤ 4096) (few_entries : q.entries ≤ 16384) (few_waits : q.waits ≤ 4096) where
    -- the words mean what level Engine loads and a run can go on from them, or both are refused by one number
    pub loaded_holds : LoadEnds s f (loaded q ws s) (load (pools_of q) f)
    unfolding loaded
    loaded_holds = load_holds s is f accepted (pools_of q) fit (start q ws s) (start_fresh q ws s is f accepted room few_nodes few_entries few_waits)

    pub loaded_gives : (out : List ℕ) → length out < 18446744073709551616 → Gives out (optimize_loaded q ws s out) (optimized (pools_of q) f >>= deliver (length out))
    unfolding optimized
    loaded_gives out size = go (load (pools_of q) f) refl loaded_holds
      where
        go : (r : Result Engine) → load (pools_of q) f ≡ r → LoadEnds s f (loaded q ws s) r
            → Gives out (optimize_loaded q ws s out) ((r >>= λ e. run_slice none e >>= λ x. ok (Finish.result f x.0)) >>= deliver (length out))
        go (refuse n) i t =
            let l = loaded q ws s in
            let y : ◌≡◌ {A = Wrote Answer} (record { is = Refused l.is; ws = l.ws; out = out }) (optimize_loaded q ws s out)
            = load_refused q ws l.ws s out l.is refl refl (λ z. let a = t.0 in let b = t.1 in omega arith) in
            subst (λ (x : Wrote Answer). Gives out x (refuse n)) y (ap Refused t.0, unwritten out n)
        go (ok e) i t =
            let l = loaded q ws s in
            let d = optimize_run l.ws s out in
            let y : ◌≡◌ {A = Wrote Answer} (record { is = d.is; ws = d.ws; out = d.out }) (optimize_loaded q ws s out)
            = loaded_runs q ws l.ws d.ws s out d.out l.is d.is refl refl t.0 refl refl refl in
            subst (λ (z : Wrote Answer). Gives out z ((run_slice none e >>= λ x. ok (Finish.result f x.0)) >>= deliver (length out))) y
            (run_gives (pools_of q) fit out size l.ws e t.1 (loads i))
