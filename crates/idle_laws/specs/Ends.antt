-- Where a slice ends with steps over, the dirty list is empty.
use Rattle.std.specs.Prelude.{ℕ, zero, suc, ◌+◌, ◌-◌, ◌≤◌, ◌≡◌, refl, Bool, true, false, ◌||◌, List, [], ◌∷◌}
use Rattle.std.proofs.Common.{sym, ap, arith}
use Rattle.std.proofs.Math.Path.{subst}
use Rattle.std.proofs.Math.Option.{Option, none, some}
use Rattle.net_file.specs.Lists.{Result, ok, refuse}
use Rattle.definitions.specs.Lists.{◌>>=◌, unsnoc}
use Rattle.definitions.specs.State.{Engine, with_dirty}
use Rattle.definitions.specs.Visit.{Visited, acted, passed, less_one}
use Rattle.definitions.specs.Run.{with_items, spent, next, run, fuel, run_slice}
use Rattle.engine_laws.specs.Frame.{frame, steps_kept}
use Rattle.engine_laws.specs.Turns.{Counts}
use Rattle.engine_laws.proofs.Turns.{turn_counts}
use Rattle.step_laws.specs.Counting.{less}
use Rattle.good_laws.specs.Edits.{Answers}
use Rattle.slice_laws.specs.Loop.{after, taken, run_by, run_by_lem}

-- from e on with a slice of n: at e' nothing is next
pub record Ended (n : Option ℕ) (e e' : Engine) : Type 0 where
  pub later : e.steps ≤ e'.steps
  pub none' : next (less (e'.steps - e.steps) n) e' ≡ none

less_zero : (k : ℕ) (n : Option ℕ) → k ≡ 0 → n ≡ less k n
less_zero k none q = refl
less_zero k (some n) q = ap {B = Option ℕ} some (let z : n ≡ n - k = omega arith in z)

less_one_lem : (j k : ℕ) (n : Option ℕ) → k ≡ suc j → less j (less_one n) ≡ less k n
unfolding less_one
less_one_lem j k none q = refl
less_one_lem j k (some n) q = ap {B = Option ℕ} some (let z : n - 1 - j ≡ n - k = omega arith in z)

-- a turn before
ended_acted : (n : Option ℕ) (e e₁ e' : Engine) → e₁.steps ≡ e.steps + 1 → Ended (less_one n) e₁ e' → Ended n e e'
ended_acted n e e₁ e' q h = record {
  later = let l = h.later in omega arith;
  none' = subst (λ (o : Option ℕ). next o e' ≡ none) (less_one_lem (e'.steps - e₁.steps) (e'.steps - e.steps) n (let l = h.later in omega arith)) h.none';
}

ended_passed : (n : Option ℕ) (e e₁ e' : Engine) → e₁.steps ≡ e.steps → Ended n e₁ e' → Ended n e e'
ended_passed n e e₁ e' q h = record {
  later = let l = h.later in omega arith;
  none' = subst (λ (k : ℕ). next (less (e'.steps - k) n) e' ≡ none) q h.none';
}

module _ (f : ℕ) (ih : (n : Option ℕ) (e : Engine) → Answers (Ended n e) (run f n e)) where
  ends_after : (e : Engine) (n : Option ℕ) (r : Result Visited) → Counts (frame e) r → Answers (Ended n e) (r >>= λ v. after f n v)
  ends_after e n (ok (acted e₁)) c = then (run f (less_one n) e₁) (ih (less_one n) e₁)
    where
      then : (r : Result Engine) → Answers (Ended (less_one n) e₁) r → Answers (Ended n e) r
      then (ok e') h = ended_acted n e e₁ e' (steps_kept c) h
      then (refuse r) h = tt
  ends_after e n (ok (passed e₁)) c = then (run f n e₁) (ih n e₁)
    where
      then : (r : Result Engine) → Answers (Ended n e₁) r → Answers (Ended n e) r
      then (ok e') h = ended_passed n e e₁ e' (steps_kept c) h
      then (refuse r) h = tt
  ends_after e n (refuse r) c = tt

  ends_by : (n : Option ℕ) (e : Engine) (o : Option (List ℕ × ℕ)) → next n e ≡ o → Answers (Ended n e) (run_by f n e o)
  unfolding with_items with_dirty
  ends_by n e none q = record { later = omega arith; none' = subst (λ (o : Option ℕ). next o e ≡ none) (less_zero (e.steps - e.steps) n (omega arith)) q }
  ends_by n e (some p) q = ends_after e n (taken p e) (turn_counts p.1 (with_items p.0 e))

run_ends : (f : ℕ) (n : Option ℕ) (e : Engine) → Answers (Ended n e) (run f n e)
unfolding run
run_ends zero n e = tt
run_ends (suc f) n e = subst (Answers (Ended n e)) (sym (run_by_lem f n e)) (ends_by f (λ n' e'. run_ends f n' e') n e (next n e) refl)

no_last : (xs : List ℕ) → ◌≡◌ {A = Option (List ℕ × ℕ)} (unsnoc xs) none → xs ≡ []
no_last [] q = refl
no_last (x ∷ xs) q = absurd (go (unsnoc xs) q)
  where
    go : (o : Option (List ℕ × ℕ)) → ◌≡◌ {A = Option (List ℕ × ℕ)} (elim o as (λ _. Option (List ℕ × ℕ)) [ none ↦ some ([], x) | some p ↦ some (x ∷ p.0, p.1) ]) none → ⊥
    go none r = let z : ◌≡◌ {A = ℕ} 0 1 = cc in omega arith
    go (some p) r = let z : ◌≡◌ {A = ℕ} 0 1 = cc in omega arith

-- slice and limit have steps over
pub slice_empty : (n : Option ℕ) (e e' : Engine) (k : ℕ) → run_slice n e ≡ ok (e', k) → spent (less k n) ≡ false → spent e'.limit ≡ false → e'.dirty.items ≡ []
unfolding run_slice next
slice_empty n e e' k h s t = go (run fuel n e) (run_ends fuel n e) h
  where
    pair_of : Result (Engine × ℕ) → Engine × ℕ
    pair_of (ok x) = x
    pair_of (refuse q) = (e, 0)

    over : (a b : Bool) → a ≡ false → b ≡ false → ◌≡◌ {A = Option (List ℕ × ℕ)} (elim (a || b) as (λ _. Option (List ℕ × ℕ)) [ true ↦ none | false ↦ unsnoc e'.dirty.items ]) none → e'.dirty.items ≡ []
    over true b p q r = absurd (let z : ◌≡◌ {A = ℕ} 0 1 = cc in omega arith)
    over false true p q r = absurd (let z : ◌≡◌ {A = ℕ} 0 1 = cc in omega arith)
    over false false p q r = no_last e'.dirty.items r

    go : (q : Result Engine) → Answers (Ended n e) q → ◌>>=◌ {B = Engine × ℕ} q (λ e''. ok (e'', e''.steps - e.steps)) ≡ ok (e', k) → e'.dirty.items ≡ []
    go (refuse q) x y = absurd (let z : ◌≡◌ {A = ℕ} 0 1 = cc in omega arith)
    go (ok e'') x y =
        let u : e'' ≡ e' = ap (λ (z : Result (Engine × ℕ)). (pair_of z).0) y in
        let d : e''.steps - e.steps ≡ k = ap (λ (z : Result (Engine × ℕ)). (pair_of z).1) y in
        let x' : next (less k n) e' ≡ none = subst (λ (j : ℕ). next (less j n) e' ≡ none) d (subst (λ (z : Engine). next (less (e''.steps - e.steps) n) z ≡ none) u x.none') in
        over (spent (less k n)) (spent e'.limit) s t x'
