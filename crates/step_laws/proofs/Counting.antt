-- `steps-counted`: what a slice does to the nets is as many steps of registered rules as it deducts.
use Rattle.std.proofs.Math.Path.{◌≡◌, refl, ap, subst}
use Rattle.std.proofs.Common.{sym, ◌∙◌, arith, true≢false}
use Prim.Native.Nat.{ℕ, zero, suc, ◌+◌, ◌-◌, ◌<◌, ◌≤◌}
use Rattle.std.specs.Prelude.{Bool, false, ◌||◌}
use Rattle.std.proofs.Math.Bool.{true}
use Rattle.std.proofs.Math.Option.{Option, none, some}
use mathlib.Core.List.{List, [], ◌∷◌}
use Rattle.net_file.specs.Lists.{Result, ok, refuse}
use Rattle.net_file.specs.Values.{Rule}
use Rattle.definitions.specs.Lists.{◌>>=◌, unsnoc}
use Rattle.definitions.specs.Nets.{Graph, Home, at, filled, arity}
use Rattle.definitions.specs.Step.{Step}
use Rattle.definitions.specs.State.{Engine, graph_of, homes, with_dirty, with_mark, with_slots, with_stale, net_at, fewer}
use Rattle.definitions.specs.Books.{is_dirty, finish_edit_net}
use Rattle.definitions.specs.Visit.{Visited, acted, passed, less_one, Try, tries, attempt, attempts, visit}
use Rattle.definitions.specs.Run.{leave, turn, with_items, spent, next, run, run_slice, fuel}
use Rattle.step_laws.specs.Core.{Core, core_of, pick, core_mark, core_dirty, core_fewer, core_finish_edit_net}
use Rattle.step_laws.specs.Acting.{After}
use Rattle.step_laws.specs.Ready.{Ready, OneStep}
use Rattle.step_laws.specs.Tries.{Valid, All, nil, cons, tries_valid}
use Rattle.step_laws.specs.Visiting.{Held, Leaves, attempt_leaves}
use Rattle.step_laws.specs.Counting.{Marked, Turns, turn_steps, Counted, none_counted, more_counted, counted_by, Ran, core_items, marked_items}

-- `Books` is what the run keeps beside the nodes: it has every marked slot hold a node whose net is not at 0, and every turn keeps it
module _ (path : ℕ) (Books : Engine → Type 0) (marked : (e : Engine) → Books e → Marked e)
    (kept : (n : Option ℕ) (e : Engine) (p : List ℕ × ℕ) → Books e → next n e ≡ some p → After Books Books (turn p.1 (with_items p.0 e))) where
  run_counted : (f : ℕ) (n : Option ℕ) (e e' : Engine) → Ready path (core_of e) → Books e → run f n e ≡ ok e' → (Ran path Books marked kept) e e'
  unfolding run
  run_counted zero n e e' r b h = let z : ◌≡◌ {A = ℕ} 0 1 = cc in absurd (omega arith)
  run_counted (suc f) n e e' r b h = go (next n e) refl h (λ n' e''. run_counted f n' e'' e')
    where
      go : (o : Option (List ℕ × ℕ)) → next n e ≡ o
          → elim o as (λ _. Result Engine) [
            | none ↦ ok e
            | some p ↦ turn p.1 (with_items p.0 e) >>= λ v. elim v as (λ _. Result Engine) [ acted e'' ↦ run f (less_one n) e'' | passed e'' ↦ run f n e'' ]
          ] ≡ ok e'
          → ((n' : Option ℕ) (e'' : Engine) → Ready path (core_of e'') → Books e'' → run f n' e'' ≡ ok e' → (Ran path Books marked kept) e'' e')
          → (Ran path Books marked kept) e e'
      go none x y k = stop (ok_injective y)
        where
          ok_injective : ◌≡◌ {A = Result Engine} (ok e) (ok e') → e ≡ e'
          ok_injective q = ap (λ (t : Result Engine). elim t as (λ _. Engine) [ ok u ↦ u | refuse u ↦ e ]) q

          stop : e ≡ e' → (Ran path Books marked kept) e e'
          stop q = subst ((Ran path Books marked kept) e) q (record { taken = 0; counted = none_counted path (core_of e) r; books = b })
      go (some p) x y k =
          via (turn p.1 (with_items p.0 e)) (turn_steps path p.1 (with_items p.0 e) (subst (Ready path) (sym ((core_items path Books marked kept) p.0 e)) r) ((marked_items path Books marked kept) p.0 e (marked e b))) (kept n e p b x) y
        where
          via : (q : Result Visited) → Turns path (with_items p.0 e) q → After Books Books q
              → (q >>= λ v. elim v as (λ _. Result Engine) [ acted e'' ↦ run f (less_one n) e'' | passed e'' ↦ run f n e'' ]) ≡ ok e' → (Ran path Books marked kept) e e'
          via (refuse q) t u s = let z : ◌≡◌ {A = ℕ} 0 1 = cc in absurd (omega arith)
          via (ok (acted e'')) t u s =
              let one = subst (λ (c : Core). OneStep path c (core_of e'')) ((core_items path Books marked kept) p.0 e) t in
              let rest = k (less_one n) e'' one.ready u s in
              record { taken = suc rest.taken; counted = more_counted path (core_of e) (core_of e'') (core_of e') rest.taken one rest.counted; books = rest.books }
          via (ok (passed e'')) t u s =
              let same = t ∙ (core_items path Books marked kept) p.0 e in
              let rest = k n e'' (subst (Ready path) (sym same) r) u s in
              record { taken = rest.taken; counted = subst (λ (c : Core). Counted path c (core_of e') rest.taken) same rest.counted; books = rest.books }

  -- `steps-counted`: the nets after a slice come from those before by as many steps of registered rules as were deducted
  pub steps_counted : (n : Option ℕ) (e e' : Engine) (k : ℕ) → Ready path (core_of e) → Books e → run_slice n e ≡ ok (e', k)
      → Counted path (core_of e) (core_of e') k × Books e'
  unfolding run_slice
  steps_counted n e e' k r b h = go (run fuel n e) refl h
    where
      pair_of : Result (Engine × ℕ) → Engine × ℕ
      pair_of (ok x) = x
      pair_of (refuse q) = (e, 0)

      go : (q : Result Engine) → run fuel n e ≡ q → ◌>>=◌ {B = Engine × ℕ} q (λ e''. ok (e'', e''.steps - e.steps)) ≡ ok (e', k) → Counted path (core_of e) (core_of e') k × Books e'
      go (refuse q) x y = let z : ◌≡◌ {A = ℕ} 0 1 = cc in absurd (omega arith)
      go (ok e'') x y =
          let s : e'' ≡ e' = ap (λ (t : Result (Engine × ℕ)). (pair_of t).0) y in
          let d : e''.steps - e.steps ≡ k = ap (λ (t : Result (Engine × ℕ)). (pair_of t).1) y in
          let ran = run_counted fuel n e e'' r b x in
          let taken : ran.taken ≡ k = deducted ran.taken ran.counted.count d in (
            subst (λ (t : Engine). Counted path (core_of e) (core_of t) k) s (subst (Counted path (core_of e) (core_of e'')) taken ran.counted),
            subst Books s ran.books,
          )
        where
          deducted : (j : ℕ) → (core_of e'').steps ≡ (core_of e).steps + j → e''.steps - e.steps ≡ k → j ≡ k
          deducted j u v = counted_by e e'' j k u v
