-- Each turn makes less what is left: a turn without a step makes the entries and what they can still draw fewer by one, and a step is
use Rattle.std.specs.Prelude.{ℕ, ◌+◌, ◌*◌, ◌-◌, ◌≤◌, ◌≡◌, refl, Bool, true, false, List, [], ◌∷◌, ◌++◌, length, get_or}
use Rattle.std.proofs.Common.{sym, ap, ◌∙◌, subst, arith, length-append}
use Rattle.std.proofs.Math.Option.{none, some}
use Rattle.net_file.specs.Lists.{Result, ok, refuse}
use Rattle.definitions.specs.Lists.{◌>>=◌}
use Rattle.definitions.specs.Nets.{at}
use Rattle.definitions.specs.State.{Pools, Ids, Engine, graph_of, with_slots, with_dirty, with_mark, with_stale, net_at, fewer, waits}
use Rattle.definitions.specs.Books.{is_dirty, finish_edit_net}
use Rattle.definitions.specs.Visit.{Visited, acted, passed, visit}
use Rattle.definitions.specs.Run.{leave, turn, with_items}
use Rattle.engine_laws.specs.Frame.{Body, body, still_frame, pools_kept, fewer_still, finish_net_still}
use Rattle.good_laws.specs.Owners.{owners, net_of}
use Rattle.good_laws.specs.Good.{Good, bump, rest}
use Rattle.good_laws.specs.Idle.{Idle}
use Rattle.good_laws.specs.Scripts.{Visits}
use Rattle.good_laws.specs.Turned.{taken_good}
use Rattle.good_laws.specs.Turn.{is_some_lem}
use Rattle.good_laws.specs.Sound.{visiting}
use Rattle.fuel_laws.specs.Weights.{drawing, drawing_most, target}
use Rattle.fuel_laws.specs.Answered.{leave_drawing}
use Rattle.fuel_laws.specs.Passes.{targets, Passes, visit_passes}
use Rattle.fuel_laws.specs.Measure.{left, left_same}

-- a visit without a step, and its end
leave_less : (n : ℕ) (e : Engine) → (r : Result Visited) → Passes n e r
    → Visits (λ _. Unit {0}) (λ e'. left e' ≤ left e) (r >>= λ v. ok (leave (at (graph_of e) n).net v))
unfolding leave
leave_less n e (ok (acted e')) h = tt
leave_less n e (refuse r) h = tt
leave_less n e (ok (passed e')) h =
    let k = (at (graph_of e) n).net in
    let e₂ = finish_edit_net k (fewer k e') in
    let s : e'.pools.nodes ≡ e.pools.nodes = ap (λ (p : Pools). p.nodes) (pools_kept (still_frame h.same)) in
    let a = leave_drawing (targets e) e.pools.nodes k e' s h.good in
    let b : length e'.dirty.items ≡ length e.dirty.items = ap (λ (d : Ids). length d.items) h.list in
    let c = h.less in
    let d = left_same e e₂ (finish_net_still k (fewer k e') ∙ fewer_still k e' ∙ h.same) in
    omega arith

-- a turn without a step leaves less
pub turn_less : (xs : List ℕ) (n : ℕ) (e : Engine) → Good rest e → Idle e → e.dirty.items ≡ xs ++ n ∷ []
    → Visits (λ _. Unit {0}) (λ e'. left e' + 1 ≤ left e) (turn n (with_items xs e))
unfolding turn is_dirty with_items with_dirty with_mark with_slots with_stale net_at
turn_less xs n e g i last = go (get_or e.slots.marks n false) refl
  where
    e₁ : Engine
    e₁ = with_items xs e

    size : length e.dirty.items ≡ length xs + 1
    size = ap length last ∙ length-append xs (n ∷ [])

    widen : (r : Result Visited) → Visits (λ _. Unit {0}) (λ e'. left e' ≤ left (with_mark n false e₁)) r → Visits (λ _. Unit {0}) (λ e'. left e' + 1 ≤ left e) r
    widen (ok (acted e')) h = tt
    widen (ok (passed e')) h = let s = size in omega arith
    widen (refuse r) h = tt

    live : (k : ℕ) → get_or (owners (graph_of e)) n none ≡ some k → get_or e.slots.marks n false ≡ true
        → Visits (λ _. Unit {0}) (λ e'. left e' + 1 ≤ left e) (visit n (with_mark n false e₁) >>= λ v. ok (leave (at (graph_of e₁) n).net v))
    live k o m =
        let e₂ = with_mark n false e₁ in
        let q = net_of (graph_of e) n k o in
        let h : Good (visiting e₂ n) e₂ = subst (λ (j : ℕ). Good (bump j rest) e₂) (sym q) (taken_good rest xs n k e g last m o) in
        widen (visit n e₂ >>= λ v. ok (leave (at (graph_of e₁) n).net v)) (leave_less n e₂ (visit n e₂) (visit_passes n e₂ h i))

    go : (t : Bool) → get_or e.slots.marks n false ≡ t
        → Visits (λ _. Unit {0}) (λ e'. left e' + 1 ≤ left e) (elim t as (λ _. Result Visited) [
          | true ↦ visit n (with_mark n false e₁) >>= λ v. ok (leave (at (graph_of e₁) n).net v)
          | false ↦ ok (passed (with_dirty (with_stale (e₁.dirty.stale - 1) e₁.dirty) e₁))
        ])
    go true m = let o = is_some_lem (get_or (owners (graph_of e)) n none) (g.slotted.marked n m) in live o.0 o.1 m
    go false m = let s = size in omega arith
