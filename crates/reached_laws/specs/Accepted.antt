-- Without a condition on wires: of every engine that the load of an accepted file and slices reach. What is promised of a run.
use Rattle.std.specs.Prelude.{ℕ, ◌+◌, ◌-◌, ◌≡◌, true, List, map, length}
use Rattle.std.proofs.Common.{sym, ap, ◌∙◌, subst, arith}
use Rattle.std.proofs.Math.Option.{Option}
use Rattle.net_file.specs.Lists.{Result, ok, refuse, all}
use Rattle.net_file.specs.Values.{FlatNet, File}
use Rattle.net_file.specs.Read.{limit_of}
use Rattle.net_file.specs.Write.{limit_number}
use Rattle.net_file.specs.Checks.{flat, read, limit_fits}
use Rattle.net_file_laws.specs.Bytes.{Bytes}
use Rattle.definitions.specs.Lists.{◌>>=◌}
use Rattle.definitions.specs.Nets.{Home, arity}
use Rattle.definitions.specs.State.{Pools, Engine, graph_of, homes}
use Rattle.definitions.specs.Load.{with_free_path, free_name, included}
use Rattle.definitions.specs.Run.{run, fuel, run_slice}
use Rattle.definitions.specs.Calls.{Held, Workspace, pools_fit, resume, slice, after}
use Rattle.graph_laws.specs.Rest.{Rest}
use Rattle.graph_laws.specs.Nodes.{AllNodes}
use Rattle.step_laws.specs.Core.{core_of}
use Rattle.step_laws.specs.Counting.{Counted}
use Rattle.load_laws.specs.Begin.{Writable}
use Rattle.load_laws.proofs.Begin.{load_ready}
use Rattle.good_laws.specs.Good.{Good, rest}
use Rattle.good_laws.specs.Idle.{Idle}
use Rattle.good_laws.specs.Edits.{Answers}
use Rattle.slice_laws.specs.Sums.{total, slices}
use Rattle.slice_laws.specs.Loop.{Lasts}
use Rattle.fuel_laws.specs.Reached.{Reached, run_reached, Bounded}
use Rattle.reached_laws.specs.Runs
use Rattle.reached_laws.specs.Runs.{Begins}
use Rattle.reached_laws.specs.Counted
use Rattle.reached_laws.specs.Kept
use Rattle.reached_laws.specs.Calls
use Rattle.reached_laws.specs.Calls.{slice_calls, SumFits}

-- a slice ends in an engine reached
pub slice_reached : (p : Pools) (f : File FlatNet) {e : Engine} (n : Option ℕ) (e' : Engine) (k : ℕ) → Reached p f e → run_slice n e ≡ ok (e', k) → Reached p f e'
unfolding run_slice
slice_reached p f {e} n e' k r h = go (run fuel n e) (run_reached p f fuel n e r) h
  where
    ended : Result (Engine × ℕ) → Engine
    ended (ok x) = x.0
    ended (refuse q) = e

    go : (q : Result Engine) → Answers (Reached p f) q → ◌>>=◌ {B = Engine × ℕ} q (λ e''. ok (e'', e''.steps - e.steps)) ≡ ok (e', k) → Reached p f e'
    go (refuse q) x y = let z : ◌≡◌ {A = ℕ} 0 1 = cc in absurd (omega arith)
    go (ok e'') x y = subst (Reached p f) (ap ended y) x

-- the number of `ivy:engine:free` among the paths of the result
abbrev pub free_number : File FlatNet → ℕ
free_number f = (free_name f.paths).path

module _ (bs : List ℕ) (bytes : Bytes bs) (f : File FlatNet) (accepted : read flat bs ≡ ok f) (p : Pools) (fits : pools_fit p ≡ true) where
  -- an accepted file begins well wired
  pub begins : Begins p f (free_number f)
  unfolding core_of
  begins e q = let r = load_ready bs bytes f accepted p e q in (r.rest, r.unnamed)

  -- the books agree
  pub reached_good : {e : Engine} → Reached p f e → Good rest e
  reached_good r = Runs.reached_good p fits f (free_number f) begins r

  -- every net is well wired, and has its free node
  pub reached_rest : {e : Engine} → Reached p f e → Rest (free_number f) (homes e) (graph_of e)
  reached_rest r = Runs.reached_rest p fits f (free_number f) begins r

  -- no node waits on a net at 0
  pub reached_idle : {e : Engine} → Reached p f e → Idle e
  reached_idle r = Runs.reached_idle p fits f (free_number f) begins r

  -- the dirty list never exceeds 4N + 4 entries
  pub dirty_bounded : {e : Engine} → Reached p f e → Bounded e
  dirty_bounded r = Runs.dirty_bounded p fits f (free_number f) begins r

  -- the loop ends before its fuel does
  pub fuel_lasts : {e : Engine} (n : Option ℕ) → Reached p f e → Lasts (run fuel n e)
  fuel_lasts n r = Runs.fuel_lasts p fits f (free_number f) begins n r

  -- slices one after another give the engine, the steps deducted and the refusal of one slice of their sum
  pub slices_compose : {e : Engine} (ns : List (Option ℕ)) → Reached p f e → slices ns e ≡ run_slice (total ns) e
  slices_compose ns r = Runs.slices_compose p fits f (free_number f) begins ns r

  -- the nets after a slice come from those before by as many steps of registered rules as were deducted
  pub steps_counted : {e : Engine} (n : Option ℕ) (e' : Engine) (k : ℕ) → Reached p f e → run_slice n e ≡ ok (e', k) → Counted (free_number f) (core_of e) (core_of e') k
  steps_counted n e' k r h = Counted.steps_counted p fits f (free_number f) begins n e' k r h

  -- `free-kept`: each included net has 2 more ports at its free node, so as many free ports, as the file gives it free wires
  pub free_kept : {e : Engine} → Reached p f e → map (λ (h : Home). arity (graph_of e) h.free) (homes e) ≡ map (λ (t : FlatNet). 2 + length t.free) (included f)
  unfolding core_of
  free_kept r = Kept.reached_ports bs bytes f accepted p fits begins r

  -- so a slice keeps them
  pub slice_free_kept : {e : Engine} (n : Option ℕ) (e' : Engine) (k : ℕ) → Reached p f e → run_slice n e ≡ ok (e', k)
      → map (λ (h : Home). arity (graph_of e') h.free) (homes e') ≡ map (λ (h : Home). arity (graph_of e) h.free) (homes e)
  slice_free_kept n e' k r h = free_kept (slice_reached p f n e' k r h) ∙ sym (free_kept r)

  -- every node's name fits the result's tables, and it has at most 16 ports
  pub reached_nodes : {e : Engine} → Reached p f e → AllNodes (Writable (length (with_free_path f.paths)) (length f.names)) (graph_of e)
  unfolding core_of
  reached_nodes r = Kept.reached_nodes bs bytes f accepted p fits begins r
