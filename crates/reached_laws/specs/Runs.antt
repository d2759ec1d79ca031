-- Of every engine that the load of a file and slices reach, where the load leaves well wired nets: the books are good, the dirty list is
-- bounded, slices compose.
use Rattle.std.specs.Prelude.{ℕ, ◌≡◌, true, List}
use Rattle.std.proofs.Math.Option.{Option}
use Rattle.net_file.specs.Lists.{ok}
use Rattle.net_file.specs.Values.{FlatNet, File}
use Rattle.definitions.specs.State.{Pools, Engine, graph_of, homes}
use Rattle.definitions.specs.Load.{load}
use Rattle.definitions.specs.Run.{run, fuel, run_slice}
use Rattle.definitions.specs.Calls.{pools_fit}
use Rattle.graph_laws.specs.Rest.{Rest}
use Rattle.good_laws.specs.Good.{Good, rest}
use Rattle.good_laws.specs.Idle.{Idle}
use Rattle.good_laws.specs.Sound.{Of}
use Rattle.slice_laws.specs.Sums.{total, slices}
use Rattle.slice_laws.specs.Loop.{Lasts}
use Rattle.fuel_laws.specs.Reached
use Rattle.fuel_laws.proofs.Reached as ReachedProofs
use Rattle.fuel_laws.specs.Reached.{Reached, Bounded}
use Rattle.reached_laws.specs.Wires.{Wires, wires_sound}

-- the load of f leaves well wired nets with their free nodes, and no rule names `path`, the number of `ivy:engine:free`
abbrev pub Begins : Pools → File FlatNet → ℕ → Type 0
Begins p f path = (e : Engine) → load p f ≡ ok e → Of (Wires path) e

module _ (p : Pools) (fits : pools_fit p ≡ true) (f : File FlatNet) (path : ℕ) (begins : Begins p f path) where
  -- the books
  pub reached_good : {e : Engine} → Reached p f e → Good rest e
  reached_good r = (Reached.reached_running (Wires path) (wires_sound path) p fits f begins r).0.0

  -- the nets
  pub reached_rest : {e : Engine} → Reached p f e → Rest path (homes e) (graph_of e)
  reached_rest r = (Reached.reached_running (Wires path) (wires_sound path) p fits f begins r).0.1.0

  -- no node waits on a net at 0
  pub reached_idle : {e : Engine} → Reached p f e → Idle e
  reached_idle r = (Reached.reached_running (Wires path) (wires_sound path) p fits f begins r).0.2

  -- `dirty-bounded`
  pub dirty_bounded : {e : Engine} → Reached p f e → Bounded e
  dirty_bounded r = Reached.dirty_bounded (Wires path) (wires_sound path) p fits f begins r

  -- the loop ends before its fuel does
  pub fuel_lasts : {e : Engine} (n : Option ℕ) → Reached p f e → Lasts (run fuel n e)
  fuel_lasts n r = ReachedProofs.reached_lasts (Wires path) (wires_sound path) p fits f begins n r

  -- `slices-compose`
  pub slices_compose : {e : Engine} (ns : List (Option ℕ)) → Reached p f e → slices ns e ≡ run_slice (total ns) e
  slices_compose ns r = ReachedProofs.reached_slices (Wires path) (wires_sound path) p fits f begins ns r
