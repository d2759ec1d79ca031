-- `fuel` lasts for every slice, on every engine with good books on which rules find orderly scripts.
use Prim.Native.Nat.{ℕ, zero, suc, ◌+◌, ◌*◌, ◌-◌, ◌≤◌, ◌<◌}
use Rattle.std.specs.Prelude.{◌≡◌, refl, ◌≢◌, Bool, true, false, ◌||◌, List, [], ◌∷◌, ◌++◌}
use Rattle.std.proofs.Common.{sym, not-suc-le-zero, arith}
use Rattle.std.proofs.Math.Path.{subst}
use Rattle.std.proofs.Math.Option.{Option, none, some}
use Rattle.net_file.specs.Lists.{Result, ok, refuse}
use Rattle.definitions.specs.Lists.{◌>>=◌, unsnoc}
use Rattle.definitions.specs.State.{Pools, Engine, with_dirty}
use Rattle.definitions.specs.Visit.{Visited, acted, passed, less_one}
use Rattle.definitions.specs.Run.{with_items, spent, next, run, fuel}
use Rattle.dirty_laws.specs.Listed.{unsnoc_snoc}
use Rattle.engine_laws.specs.Frame.{frame, body, pools_kept, steps_kept}
use Rattle.engine_laws.specs.Turns.{Counts}
use Rattle.engine_laws.proofs.Turns.{turn_counts}
use Rattle.good_laws.specs.Good.{Good, rest}
use Rattle.good_laws.specs.Edits.{Answers}
use Rattle.good_laws.specs.Idle.{Idle}
use Rattle.good_laws.specs.Scripts.{Visits}
use Rattle.good_laws.specs.Sound.{Condition, Sound, Kept, of_same}
use Rattle.good_laws.proofs.Turn.{turn_kept}
use Rattle.slice_laws.specs.Loop.{Lasts, after, taken, run_by, run_by_lem}
use Rattle.fuel_laws.specs.Measure.{left, left_most}
use Rattle.fuel_laws.proofs.Measure.{turn_less}
use Rattle.fuel_laws.specs.Lasts.{next_last, fuel_of, answered, Running, lasts_after, taken_running}

module _ (P : Condition) (sound : Sound P) where
  lasts_by : (f : ℕ) (n : Option ℕ) (e : Engine) → (Running P sound) e → fuel_of e < suc f
      → ((n' : Option ℕ) (e' : Engine) → (Running P sound) e' → fuel_of e' < f → Lasts (run f n' e'))
      → (o : Option (List ℕ × ℕ)) → next n e ≡ o → Lasts (run_by f n e o)
  unfolding with_items with_dirty
  lasts_by f n e h b ih none q = answered e
  lasts_by f n e h b ih (some p) q =
      let l = next_last n e p q in
      (lasts_after P sound) e h f n (taken p e) (turn_counts p.1 (with_items p.0 e)) ((taken_running P sound) p e h l) (turn_less p.0 p.1 e h.0.0 h.0.2 l) b ih

  run_lasts : (f : ℕ) (n : Option ℕ) (e : Engine) → (Running P sound) e → fuel_of e < f → Lasts (run f n e)
  run_lasts zero n e h b = absurd (not-suc-le-zero b)
  run_lasts (suc f) n e h b =
      subst Lasts (sym (run_by_lem f n e)) (lasts_by f n e h b (λ n' e' h' b'. run_lasts f n' e' h' b') (next n e) refl)

  -- so `fuel` lasts
  pub fuel_lasts : (n : Option ℕ) (e : Engine) → (Running P sound) e → Lasts (run fuel n e)
  unfolding fuel
  fuel_lasts n e h =
      let m = left_most rest e h.0.0 in
      let u = h.1.nodes in
      let w = h.1.waits in
      run_lasts fuel n e h (omega arith)
