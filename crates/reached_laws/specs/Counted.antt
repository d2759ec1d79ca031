-- `steps-counted` on every engine reached.
use Rattle.std.specs.Prelude.{ℕ, ◌≡◌, Bool, true, false, ◌&&◌, get_or}
use Rattle.std.proofs.Common.{sym, ap, ◌∙◌, subst, arith}
use Rattle.std.proofs.Math.Option.{Option, none, some}
use Rattle.net_file.specs.Lists.{Result, ok, refuse}
use Rattle.net_file.specs.Values.{FlatNet, File}
use Rattle.definitions.specs.Lists.{is_some}
use Rattle.definitions.specs.Nets.{at, filled}
use Rattle.definitions.specs.State.{Pools, Engine, graph_of, with_dirty, net_at}
use Rattle.definitions.specs.Load.{load}
use Rattle.definitions.specs.Books.{is_dirty}
use Rattle.definitions.specs.Visit.{Visited, acted, passed}
use Rattle.definitions.specs.Run.{turn, with_items, run_slice}
use Rattle.definitions.specs.Calls.{pools_fit}
use Rattle.dirty_laws.specs.Tests.{eqb_self}
use Rattle.dirty_laws.specs.Tally.{tally_off}
use Rattle.step_laws.specs.Core.{Core, core_of}
use Rattle.step_laws.specs.Acting.{After}
use Rattle.step_laws.specs.Ready.{Ready, OneStep}
use Rattle.step_laws.specs.Visiting.{Held}
use Rattle.step_laws.specs.Counting
use Rattle.step_laws.proofs.Counting as CountingProofs
use Rattle.step_laws.specs.Counting.{Marked, Turns, turn_steps, Counted}
use Rattle.good_laws.specs.Owners.{owners, net_of, is_of}
use Rattle.good_laws.specs.Good.{Good, rest}
use Rattle.good_laws.specs.Marks.{below_slots}
use Rattle.good_laws.specs.Scripts.{Visits}
use Rattle.good_laws.specs.Turn.{is_some_lem}
use Rattle.fuel_laws.specs.Lasts.{Running, next_last, taken_running}
use Rattle.fuel_laws.specs.Reached
use Rattle.fuel_laws.proofs.Reached as ReachedProofs
use Rattle.fuel_laws.specs.Reached.{Reached, loads, turns, leaves}
use Rattle.reached_laws.specs.Tracks.{filled_owner, good_tracked}
use Rattle.reached_laws.specs.Wires.{Wires, wires_sound}
use Rattle.reached_laws.specs.Runs.{Begins}

-- a marked slot holds a node whose net is above 0
good_marked : (x : ℕ → ℕ) (e : Engine) → Good x e → Marked e
unfolding is_dirty
good_marked x e g n h = go (is_some_lem (get_or (owners (graph_of e)) n none) (g.slotted.marked n h))
  where
    go : (k : ℕ) × (get_or (owners (graph_of e)) n none ≡ some k) → (filled (graph_of e) n ≡ true) × Held (at (graph_of e) n).net e
    go (k, o) =
        let q = net_of (graph_of e) n k o in
        let low = below_slots g.slotted n k o in
        let p = g.pending k (g.slotted.owned n k o) in
        let on : (get_or e.slots.marks n false && is_of k (get_or (owners (graph_of e)) n none)) ≡ true =
        ap (λ (b : Bool). b && is_of k (get_or (owners (graph_of e)) n none)) h ∙ ap (is_of k) o ∙ eqb_self k in
        let d = tally_off (λ i. get_or e.slots.marks i false && is_of k (get_or (owners (graph_of e)) i none)) n e.pools.nodes low on in
        (filled_owner (graph_of e) n ∙ ap is_some o, subst (λ (j : ℕ). Held j e) (sym q) (omega arith))

visits_after : (A B : Engine → Type 0) (r : Result Visited) → Visits A B r → After A B r
visits_after A B (ok (acted e)) h = h
visits_after A B (ok (passed e)) h = h
visits_after A B (refuse r) h = tt

module _ (p : Pools) (fits : pools_fit p ≡ true) (f : File FlatNet) (path : ℕ) (begins : Begins p f path) where
  -- the nodes are tracked, the nets well wired
  pub reached_ready : {e : Engine} → Reached p f e → Ready path (core_of e)
  unfolding core_of
  reached_ready {e} r =
      let h = Reached.reached_running (Wires path) (wires_sound path) p fits f begins r in
      record { unnamed = h.0.1.1; rest = h.0.1.0; tracked = good_tracked rest e h.0.0 }

  -- what holds of the core after the load, and after a step where it held before, holds on every engine reached
  pub reached_core : (P : Core → Type 0) → ((e : Engine) → load p f ≡ ok e → P (core_of e)) → ((c d : Core) → Ready path c → OneStep path c d → P c → P d)
      → {e : Engine} → Reached p f e → P (core_of e)
  unfolding core_of with_items with_dirty is_dirty net_at
  reached_core P start step (loads {e = e} q) = start e q
  reached_core P start step (turns {e = e} n q v r h t) = go v (subst (Turns path (with_items q.0 e)) t (turn_steps path q.1 (with_items q.0 e) (reached_ready r) marked)) (reached_core P start step r)
    where
      marked : Marked (with_items q.0 e)
      marked = good_marked rest e (Reached.reached_running (Wires path) (wires_sound path) p fits f begins r).0.0

      go : (u : Visited) → Turns path (with_items q.0 e) (ok u) → P (core_of e) → P (core_of (leaves u))
      go (acted e') o x = step (core_of e) (core_of e') (reached_ready r) o x
      go (passed e') s x = subst P (sym s) x

  -- the nets after a slice come from those before by as many steps of registered rules as were deducted
  pub steps_counted : {e : Engine} (n : Option ℕ) (e' : Engine) (k : ℕ) → Reached p f e → run_slice n e ≡ ok (e', k) → Counted path (core_of e) (core_of e') k
  steps_counted {e} n e' k r h =
      (CountingProofs.steps_counted path (Running (Wires path) (wires_sound path)) (λ d b. good_marked rest d b.0.0)
      (λ m d q b s. visits_after (Running (Wires path) (wires_sound path)) (Running (Wires path) (wires_sound path)) (turn q.1 (with_items q.0 d))
      (taken_running (Wires path) (wires_sound path) q d b (next_last m d q s)))
      n e e' k (reached_ready r) (Reached.reached_running (Wires path) (wires_sound path) p fits f begins r) h).0
