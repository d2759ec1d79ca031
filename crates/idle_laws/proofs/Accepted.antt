-- `no-rule-can-act`: of every engine that the load of an accepted file and slices reach.
use Rattle.std.specs.Prelude.{ℕ, ◌-◌, ◌≡◌, true, false, List}
use Rattle.std.proofs.Common.{arith, sym, ap, subst}
use Rattle.std.proofs.Math.Option.{Option}
use Rattle.net_file.specs.Lists.{Result, ok, refuse}
use Rattle.net_file.specs.Values.{FlatNet, File}
use Rattle.net_file.specs.Checks.{flat, read}
use Rattle.net_file_laws.specs.Bytes.{Bytes}
use Rattle.definitions.specs.Lists.{◌>>=◌}
use Rattle.definitions.specs.Step.{CanAct}
use Rattle.definitions.specs.State.{Pools, Engine, graph_of, homes}
use Rattle.definitions.specs.Visit.{Visited, acted, passed}
use Rattle.definitions.specs.Run.{spent, run, fuel, run_slice}
use Rattle.definitions.specs.Calls.{pools_fit}
use Rattle.step_laws.specs.Counting.{less}
use Rattle.good_laws.specs.Edits.{Answers}
use Rattle.good_laws.specs.Scripts.{Visits}
use Rattle.fuel_laws.specs.Lasts.{next_last}
use Rattle.fuel_laws.specs.Reached
use Rattle.fuel_laws.proofs.Reached as ReachedProofs
use Rattle.fuel_laws.specs.Reached.{Reached, loads, turns, leaves, run_reached}
use Rattle.reached_laws.specs.Wires.{Wires, wires_sound}
use Rattle.reached_laws.specs.Accepted.{free_number, begins}
use Rattle.reached_laws.specs.Image.{reached_image}
use Rattle.idle_laws.specs.Placed.{Placed}
use Rattle.idle_laws.specs.Acted.{Nobody}
use Rattle.idle_laws.specs.Turn.{turn_placed}
use Rattle.idle_laws.specs.Begun.{load_placed}
use Rattle.idle_laws.specs.Names.{Rising, included_rising}
use Rattle.idle_laws.specs.Ends.{slice_empty}
use Rattle.idle_laws.specs.Rest.{Excepted, rest_excepted}
use Rattle.idle_laws.specs.Accepted.{reached_placed, slice_reached}

module _ (bs : List ℕ) (bytes : Bytes bs) (f : File FlatNet) (accepted : read flat bs ≡ ok f) (p : Pools) (fits : pools_fit p ≡ true) where
  -- where a slice ends without a refusal and slice and file limit both have steps over, no rule can act in any included net, save a
  -- graft whose named net has an unanswered wait
  pub no_rule_can_act : {e : Engine} (n : Option ℕ) (e' : Engine) (k : ℕ) → Reached p f e → run_slice n e ≡ ok (e', k) → spent (less k n) ≡ false → spent e'.limit ≡ false
      → (m : Option ℕ) → CanAct e'.rules (homes e') (graph_of e') m → Excepted e' m
  no_rule_can_act {e} n e' k r h s t =
      let r' = (slice_reached bs bytes f accepted p fits) n e' k r h in
      let i = reached_image bs bytes f accepted p fits r' in
      rest_excepted e' i.books i.idle ((reached_placed bs bytes f accepted p fits) r') (subst Rising (sym i.file.names) (included_rising bs bytes f accepted)) (slice_empty n e e' k h s t)
