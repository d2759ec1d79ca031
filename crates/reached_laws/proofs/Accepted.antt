-- Without a condition on wires: of every engine that the load of an accepted file and slices reach. What is promised of a run.
use Rattle.std.specs.Prelude.{ℕ, ◌+◌, ◌-◌, ◌≡◌, true, List, map, length}
use Rattle.std.proofs.Common.{sym, ap, ◌∙◌, subst, arith}
use Rattle.std.proofs.Math.Option.{Option}
use Rattle.net_file.specs.Lists.{Result, ok, refuse, all}
use Rattle.net_file.specs.Values.{FlatNet, File}
use Rattle.net_file.specs.Read.{limit_of}
use Rattle.net_file.specs.Write.{limit_number}
use Rattle.net_file.specs.Checks.{flat, read, limit_fits}
use Rattle.net_file_laws.specs.Bytes.{Bytes}
use Rattle.definitions.specs.Lists.{◌>>=◌}
use Rattle.definitions.specs.Nets.{Home, arity}
use Rattle.definitions.specs.State.{Pools, Engine, graph_of, homes}
use Rattle.definitions.specs.Load.{with_free_path, free_name, included}
use Rattle.definitions.specs.Run.{run, fuel, run_slice}
use Rattle.definitions.specs.Calls.{Held, Workspace, pools_fit, resume, slice, after}
use Rattle.graph_laws.specs.Rest.{Rest}
use Rattle.graph_laws.specs.Nodes.{AllNodes}
use Rattle.step_laws.specs.Core.{core_of}
use Rattle.step_laws.specs.Counting.{Counted}
use Rattle.load_laws.specs.Begin.{Writable}
use Rattle.load_laws.proofs.Begin.{load_ready}
use Rattle.good_laws.specs.Good.{Good, rest}
use Rattle.good_laws.specs.Idle.{Idle}
use Rattle.good_laws.specs.Edits.{Answers}
use Rattle.slice_laws.specs.Sums.{total, slices}
use Rattle.slice_laws.specs.Loop.{Lasts}
use Rattle.fuel_laws.specs.Reached.{Reached, run_reached, Bounded}
use Rattle.reached_laws.specs.Runs
use Rattle.reached_laws.specs.Runs.{Begins}
use Rattle.reached_laws.specs.Counted
use Rattle.reached_laws.specs.Kept
use Rattle.reached_laws.specs.Calls
use Rattle.reached_laws.proofs.Calls as CallsProofs
use Rattle.reached_laws.specs.Calls.{slice_calls, SumFits}
use Rattle.reached_laws.specs.Accepted.{fuel_lasts}

module _ (bs : List ℕ) (bytes : Bytes bs) (f : File FlatNet) (accepted : read flat bs ≡ ok f) (p : Pools) (fits : pools_fit p ≡ true) where
  -- slice calls one after another, whose numbers add up to at most 16,777,216 or to none, answer and leave what one call of their sum does
  pub slice_calls_compose : (w : Workspace) (h : Held) (ns : List ℕ) → resume w p ≡ ok h → Reached p f h.engine → all limit_fits ns ≡ true → SumFits (total (map limit_of ns))
      → slice_calls w p ns ≡ ((slice w p (limit_number (total (map limit_of ns)))).0, after w (slice w p (limit_number (total (map limit_of ns)))).1)
  slice_calls_compose w h ns q r l s = CallsProofs.slice_calls_compose w p h ns q l s ((fuel_lasts bs bytes f accepted p fits) (total (map limit_of ns)) r)
