-- The engines that the load and the turns of slices reach, and what holds of each: the dirty list is bounded, the fuel lasts, and
use Prim.Native.Nat.{ℕ, zero, suc, ◌+◌, ◌*◌, ◌≤◌, ◌<◌}
use Rattle.std.specs.Prelude.{◌≡◌, refl, ◌≢◌, true, ◌&&◌, List, [], ◌∷◌, ◌++◌, length, leb}
use Rattle.std.proofs.Common.{sym, ◌∙◌, arith, leb-true}
use Rattle.std.proofs.Math.Path.{subst}
use Rattle.std.proofs.Math.Option.{Option, none, some}
use Rattle.list_laws.specs.Tests.{both}
use Rattle.net_file.specs.Lists.{Result, ok, refuse}
use Rattle.net_file.specs.Values.{Name, FlatNet, File}
use Rattle.definitions.specs.Lists.{◌>>=◌, each}
use Rattle.definitions.specs.Nets.{Home}
use Rattle.definitions.specs.State.{Pools, Engine, with_nets, new_net}
use Rattle.definitions.specs.Books.{fresh, edit}
use Rattle.definitions.specs.Load.{load_net, add_flat_net, empty, included, free_name, load}
use Rattle.definitions.specs.Visit.{Visited, acted, passed, less_one}
use Rattle.definitions.specs.Run.{next, run, fuel, run_slice}
use Rattle.definitions.specs.Calls.{pools_fit}
use Rattle.engine_laws.specs.Frame.{FramesOk, edits_frame, pools_kept}
use Rattle.good_laws.specs.Good.{Good, rest}
use Rattle.good_laws.specs.Edits.{Answers}
use Rattle.good_laws.specs.Scripts.{Visits}
use Rattle.good_laws.specs.Loaded.{load_good, ok_injective}
use Rattle.good_laws.specs.Sound.{Condition, Sound, Of}
use Rattle.slice_laws.specs.Sums.{total, slices}
use Rattle.slice_laws.specs.Loop.{Lasts, taken, after, run_by, run_by_lem}
use Rattle.slice_laws.specs.Compose.{slices_compose}
use Rattle.fuel_laws.specs.Lasts.{InRange, Running, next_last, taken_running}
use Rattle.fuel_laws.proofs.Lasts.{fuel_lasts}
use Rattle.fuel_laws.specs.Reached.{Reached, reached_running}

module _ (P : Condition) (sound : Sound P) (p : Pools) (fits : pools_fit p ≡ true) (f : File FlatNet) (begins : (e : Engine) → load p f ≡ ok e → Of P e) where
  -- `fuel` lasts
  pub reached_lasts : {e : Engine} (n : Option ℕ) → Reached p f e → Lasts (run fuel n e)
  reached_lasts {e} n r = fuel_lasts P sound n e ((reached_running P sound p fits f begins) r)

  -- `slices-compose`, without a condition
  pub reached_slices : {e : Engine} (ns : List (Option ℕ)) → Reached p f e → slices ns e ≡ run_slice (total ns) e
  reached_slices {e} ns r = slices_compose ns e (reached_lasts (total ns) r)
