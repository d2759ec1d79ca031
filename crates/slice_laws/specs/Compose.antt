-- Slices compose: slices one after another do what one slice of their sum does, where its fuel lasts.
use Rattle.std.specs.Prelude.{ℕ, ◌+◌, ◌-◌, ◌≤◌, ◌≡◌, List, [], ◌∷◌}
use Rattle.std.proofs.Math.Path.{refl, ap}
use Rattle.std.proofs.Common.{sym, ◌∙◌, arith}
use Rattle.std.proofs.Math.Option.{Option, some}
use Rattle.net_file.specs.Lists.{Result, ok, refuse}
use Rattle.definitions.specs.Lists.{◌>>=◌}
use Rattle.definitions.specs.State.{Engine}
use Rattle.definitions.specs.Run.{run, fuel, run_slice, spent, next}
use Rattle.slice_laws.specs.Sums.{total, slices}
use Rattle.slice_laws.specs.Loop.{Lasts, AtLeast, run_split, run_least, run_by_lem}

-- an engine, and what was deducted since it had x steps
abbrev since : ℕ → Engine → Result (Engine × ℕ)
since x e = ok (e, e.steps - x)

-- y more were deducted
abbrev plus : ℕ → Engine × ℕ → Result (Engine × ℕ)
plus y s = ok (s.0, y + s.1)

-- what the second slice deducts adds to what the first did
added : (x : ℕ) (e : Engine) → x ≤ e.steps → (r : Result Engine) → AtLeast e.steps r
    → (r >>= since e.steps >>= plus (e.steps - x)) ≡ (r >>= since x)
added x e h (refuse r) k = refl
added x e h (ok e₂) k =
    let q : (e.steps - x) + (e₂.steps - e.steps) ≡ e₂.steps - x = omega arith in
    ap (λ (m : ℕ). let p : Engine × ℕ = (e₂, m) in ok p) q

-- a slice of 0 does nothing
slice_of_none : (e : Engine) → run_slice (some 0) e ≡ ok (e, 0)
unfolding run_slice fuel next spent
slice_of_none e =
    let q : e.steps - e.steps ≡ 0 = omega arith in
    ap (λ (r : Result Engine). r >>= since e.steps) (run_by_lem 1099511627775 (some 0) e)
    ∙ ap (λ (m : ℕ). let p : Engine × ℕ = (e, m) in ok p) q

module _ (n : Option ℕ) (ns : List (Option ℕ)) (e : Engine) where
  -- the first slice came out as r
  after_first : (r : Result Engine) → AtLeast e.steps r
      → ((e₁ : Engine) → r ≡ ok e₁ → slices ns e₁ ≡ run_slice (total ns) e₁)
      → (r >>= since e.steps >>= λ s. slices ns s.0 >>= plus s.1) ≡ (r >>= (λ e₁. run fuel (total ns) e₁) >>= since e.steps)
  unfolding run_slice
  after_first (refuse r) h ih = refl
  after_first (ok e₁) h ih =
      ap (λ (r : Result (Engine × ℕ)). r >>= plus (e₁.steps - e.steps)) (ih e₁ refl)
      ∙ added e.steps e₁ h (run fuel (total ns) e₁) (run_least fuel (total ns) e₁)

-- slices one after another, up to the first that is refused, give the engine, the steps deducted and the refusal of one slice of
-- their sum, if the fuel of that one slice lasts
pub slices_compose : (ns : List (Option ℕ)) (e : Engine) → Lasts (run fuel (total ns) e) → slices ns e ≡ run_slice (total ns) e
unfolding slices run_slice
slices_compose [] e l = sym (slice_of_none e)
slices_compose (n ∷ ns) e l =
    let q = run_split fuel n (total ns) e l in
    after_first n ns e (run fuel n e) (run_least fuel n e)
    (λ e₁ h. slices_compose ns e₁ (λ x. l (q ∙ ap (λ (r : Result Engine). r >>= λ e₂. run fuel (total ns) e₂) h ∙ x)))
    ∙ sym (ap (λ (r : Result Engine). r >>= since e.steps) q)
