-- Slices compose, call by call: slice calls one after another on one workspace, up to the first that is refused, answer and leave what
use Rattle.std.specs.Prelude.{ℕ, zero, suc, ◌+◌, ◌-◌, ◌≤◌, ◌≡◌, ◌≢◌, Bool, true, false, ◌&&◌, ◌||◌, List, [], ◌∷◌, map, length, leb}
use Rattle.std.proofs.Math.Path.{refl}
use Rattle.std.proofs.Common.{sym, ap, ◌∙◌, subst, arith, ne_eqb, le-leb}
use Rattle.std.proofs.Math.Option.{Option, none, some}
use Rattle.net_file.specs.Lists.{Result, ok, refuse, need, all}
use Rattle.net_file.specs.Values.{FlatNet, File, max_steps, no_limit}
use Rattle.net_file.specs.Read.{limit_of}
use Rattle.net_file.specs.Write.{limit_number}
use Rattle.net_file.specs.Checks.{flat, limit_fits, write}
use Rattle.list_laws.specs.Tests.{both}
use Rattle.definitions.specs.Lists.{◌>>=◌}
use Rattle.definitions.specs.State.{Pools, Engine, with_dirty}
use Rattle.definitions.specs.Visit.{Visited, acted, passed, less_one}
use Rattle.definitions.specs.Run.{with_items, next, run, fuel, run_slice}
use Rattle.definitions.specs.Calls.{Held, Workspace, unchanged, zeros, image, Outcome, pools_fit, same_pools, resume, slice, after}
use Rattle.engine_laws.specs.Frame.{frame, pools_kept}
use Rattle.engine_laws.specs.Turns.{Counts}
use Rattle.engine_laws.proofs.Turns.{turn_counts}
use Rattle.good_laws.specs.Edits.{Answers}
use Rattle.slice_laws.specs.Sums.{total, slices}
use Rattle.slice_laws.specs.Loop
use Rattle.slice_laws.specs.Compose.{slices_compose}
use Rattle.reached_laws.specs.Calls.{slice_calls, resumes, slice_is, ends, calls_are, SumFits, number_back, ends_outcome}

-- slice calls whose numbers add up to at most 16,777,216, or to none, on a workspace that holds a run whose fuel lasts
pub slice_calls_compose : (w : Workspace) (p : Pools) (h : Held) (ns : List ℕ) → resume w p ≡ ok h → all limit_fits ns ≡ true
    → SumFits (total (map limit_of ns)) → Loop.Lasts (run fuel (total (map limit_of ns)) h.engine)
    → slice_calls w p ns ≡ ((slice w p (limit_number (total (map limit_of ns)))).0, after w (slice w p (limit_number (total (map limit_of ns)))).1)
slice_calls_compose w p h ns q l s k =
    let r = resumes w p h q in
    let t = total (map limit_of ns) in
    let b = number_back t s in
    calls_are ns w p h r l ∙ ap (ends w h.file) (slices_compose (map limit_of ns) h.engine k ∙ ap (λ (o : Option ℕ). run_slice o h.engine) (sym b.0))
    ∙ ends_outcome w h.file (run_slice (limit_of (limit_number t)) h.engine)
    ∙ ap (λ (o : Outcome ℕ). let x : Result ℕ × Workspace = (o.0, after w o.1) in x) (sym (slice_is w p h (limit_number t) r b.1))
