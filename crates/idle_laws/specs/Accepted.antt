-- `no-rule-can-act`: of every engine that the load of an accepted file and slices reach.
use Rattle.std.specs.Prelude.{ℕ, ◌-◌, ◌≡◌, true, false, List}
use Rattle.std.proofs.Common.{arith, sym, ap, subst}
use Rattle.std.proofs.Math.Option.{Option}
use Rattle.net_file.specs.Lists.{Result, ok, refuse}
use Rattle.net_file.specs.Values.{FlatNet, File}
use Rattle.net_file.specs.Checks.{flat, read}
use Rattle.net_file_laws.specs.Bytes.{Bytes}
use Rattle.definitions.specs.Lists.{◌>>=◌}
use Rattle.definitions.specs.Step.{CanAct}
use Rattle.definitions.specs.State.{Pools, Engine, graph_of, homes}
use Rattle.definitions.specs.Visit.{Visited, acted, passed}
use Rattle.definitions.specs.Run.{spent, run, fuel, run_slice}
use Rattle.definitions.specs.Calls.{pools_fit}
use Rattle.step_laws.specs.Counting.{less}
use Rattle.good_laws.specs.Edits.{Answers}
use Rattle.good_laws.specs.Scripts.{Visits}
use Rattle.fuel_laws.specs.Lasts.{next_last}
use Rattle.fuel_laws.specs.Reached
use Rattle.fuel_laws.proofs.Reached as ReachedProofs
use Rattle.fuel_laws.specs.Reached.{Reached, loads, turns, leaves, run_reached}
use Rattle.reached_laws.specs.Wires.{Wires, wires_sound}
use Rattle.reached_laws.specs.Accepted.{free_number, begins}
use Rattle.reached_laws.specs.Image.{reached_image}
use Rattle.idle_laws.specs.Placed.{Placed}
use Rattle.idle_laws.specs.Acted.{Nobody}
use Rattle.idle_laws.specs.Turn.{turn_placed}
use Rattle.idle_laws.specs.Begun.{load_placed}
use Rattle.idle_laws.specs.Names.{Rising, included_rising}
use Rattle.idle_laws.specs.Ends.{slice_empty}
use Rattle.idle_laws.specs.Rest.{Excepted, rest_excepted}

module _ (bs : List ℕ) (bytes : Bytes bs) (f : File FlatNet) (accepted : read flat bs ≡ ok f) (p : Pools) (fits : pools_fit p ≡ true) where
  -- where a rule can act there is a dirty node whose visit finds it, or the graft node waits
  pub reached_placed : {e : Engine} → Reached p f e → Placed Nobody e
  reached_placed (loads {e = e} q) = load_placed p f e q
  reached_placed (turns {e = e} n q v r h t) =
      go v (subst (Visits (Placed Nobody) (Placed Nobody)) t
      (turn_placed (free_number f) q.0 q.1 e (Reached.reached_running (Wires (free_number f)) (wires_sound (free_number f)) p fits f (begins bs bytes f accepted p fits) r).0 (reached_placed r) (next_last n e q h)))
    where
      go : (u : Visited) → Visits (Placed Nobody) (Placed Nobody) (ok u) → Placed Nobody (leaves u)
      go (acted e') k = k
      go (passed e') k = k

  -- a slice ends in an engine that is reached
  pub slice_reached : {e : Engine} (n : Option ℕ) (e' : Engine) (k : ℕ) → Reached p f e → run_slice n e ≡ ok (e', k) → Reached p f e'
  unfolding run_slice
  slice_reached {e} n e' k r h = go (run fuel n e) (run_reached p f fuel n e r) h
    where
      first : Result (Engine × ℕ) → Engine
      first (ok x) = x.0
      first (refuse q) = e

      go : (q : Result Engine) → Answers (Reached p f) q → ◌>>=◌ {B = Engine × ℕ} q (λ e''. ok (e'', e''.steps - e.steps)) ≡ ok (e', k) → Reached p f e'
      go (ok e'') x y = subst (Reached p f) (ap first y) x
      go (refuse q) x y = absurd (let z : ◌≡◌ {A = ℕ} 0 1 = cc in omega arith)
