-- The loop for a and then for b is the loop for both, where its fuel lasts.
use Rattle.std.specs.Prelude.{ℕ, zero, suc, ◌+◌, ◌≤◌, ◌≡◌, refl, ◌≢◌, Bool, true, false, ◌||◌, List}
use Rattle.std.proofs.Common.{sym, ap, ◌∙◌, subst, subst₂}
use Rattle.std.proofs.Math.Path.{fun_ext}
use native.Mathlib.Omega.{arith}
use Rattle.std.proofs.Math.Option.{Option, none, some}
use Rattle.net_file.specs.Lists.{Result, ok, refuse}
use Rattle.definitions.specs.Lists.{◌>>=◌, unsnoc}
use Rattle.definitions.specs.State.{Engine, with_dirty}
use Rattle.definitions.specs.Visit.{Visited, acted, passed, less_one}
use Rattle.definitions.specs.Run.{turn, with_items, spent, next, run}
use Rattle.engine_laws.specs.Frame.{frame, steps_kept}
use Rattle.engine_laws.specs.Turns.{Counts}
use Rattle.engine_laws.proofs.Turns.{turn_counts}
use Rattle.slice_laws.specs.Sums.{◌⊕◌, less_plus, spent_plus, plus_spent}

-- ---- the next entry

-- `next`, by its two tests
abbrev next_by : Bool → Bool → Engine → Option (List ℕ × ℕ)
next_by s t e = elim (s || t) [ true ↦ none | false ↦ unsnoc e.dirty.items ]

differ : {A : Type 0} {a : A} → ◌≡◌ {A = Option A} none (some a) → ⊥
differ e = let z : ◌≡◌ {A = ℕ} 0 1 = cc in omega arith

-- an entry that is next for a is next for the sum
next_some : (a b : Option ℕ) (e : Engine) (p : List ℕ × ℕ) → next a e ≡ some p → (spent a ≡ false) × (next (a ⊕ b) e ≡ some p)
unfolding next
next_some a b e p = go (spent a) (spent e.limit) refl refl
  where
    go : (s t : Bool) → spent a ≡ s → spent e.limit ≡ t → next_by s t e ≡ some p → (spent a ≡ false) × (next_by (spent (a ⊕ b)) (spent e.limit) e ≡ some p)
    go true t x y h = absurd (differ h)
    go false true x y h = absurd (differ h)
    go false false x y h = (x, subst₂ (λ (s t : Bool). next_by s t e ≡ some p) (sym (spent_plus a b x)) (sym y) h)

-- a run that ends with its slice not spent ends for every slice
next_none : (a b : Option ℕ) (e : Engine) → next a e ≡ none → spent a ≡ false → next b e ≡ none
unfolding next
next_none a b e h x = go (spent b) (spent e.limit) refl (subst (λ (s : Bool). next_by s (spent e.limit) e ≡ none) x h)
  where
    go : (s t : Bool) → spent b ≡ s → next_by false t e ≡ none → next_by s t e ≡ none
    go true t y h' = refl
    go false t y h' = h'

-- ---- one turn of the loop

-- what follows a turn
abbrev pub after : ℕ → Option ℕ → Visited → Result Engine
after f n (acted e) = run f (less_one n) e
after f n (passed e) = run f n e

-- the turn that takes the entry p
abbrev pub taken : List ℕ × ℕ → Engine → Result Visited
taken p e = turn p.1 (with_items p.0 e)

-- `run`, by its next entry
abbrev pub run_by : ℕ → Option ℕ → Engine → Option (List ℕ × ℕ) → Result Engine
run_by f n e none = ok e
run_by f n e (some p) = taken p e >>= λ v. after f n v

pub run_by_lem : (f : ℕ) (n : Option ℕ) (e : Engine) → run (suc f) n e ≡ run_by f n e (next n e)
unfolding run
run_by_lem f n e = go (next n e)
  where
    go : (o : Option (List ℕ × ℕ)) → elim o as (λ x. Result Engine) [ none ↦ ok e | some p ↦ taken p e >>= λ v. elim v as (λ _. Result Engine) [ acted e' ↦ run f (less_one n) e' | passed e' ↦ run f n e' ] ] ≡ run_by f n e o
    go none = refl
    go (some p) = ap (λ (k : Visited → Result Engine). taken p e >>= k) (fun_ext by)
      where
        by : (v : Visited) → elim v as (λ x. Result Engine) [ acted e' ↦ run f (less_one n) e' | passed e' ↦ run f n e' ] ≡ after f n v
        by (acted e') = refl
        by (passed e') = refl

-- ---- fuel

-- the fuel lasted
abbrev pub Lasts : Result Engine → Type 0
Lasts r = r ≢ refuse 0

-- with none it did not
no_fuel : (n : Option ℕ) (e : Engine) → run zero n e ≡ refuse 0
unfolding run
no_fuel n e = refl

module _ (f : ℕ) (ih : (n : Option ℕ) (e : Engine) → Lasts (run f n e) → run (suc f) n e ≡ run f n e) where
  more_after : (n : Option ℕ) (r : Result Visited) → Lasts (r >>= λ v. after f n v) → (r >>= λ v. after (suc f) n v) ≡ (r >>= λ v. after f n v)
  more_after n (refuse r) h = refl
  more_after n (ok (acted e)) h = ih (less_one n) e h
  more_after n (ok (passed e)) h = ih n e h

  more_by : (n : Option ℕ) (e : Engine) (o : Option (List ℕ × ℕ)) → Lasts (run_by f n e o) → run_by (suc f) n e o ≡ run_by f n e o
  more_by n e none h = refl
  more_by n e (some p) h = more_after n (taken p e) h

-- fuel that lasts may be more
run_more : (f : ℕ) (n : Option ℕ) (e : Engine) → Lasts (run f n e) → run (suc f) n e ≡ run f n e
run_more zero n e h = absurd (h (no_fuel n e))
run_more (suc f) n e h =
    run_by_lem (suc f) n e ∙ more_by f (λ n' e' h'. run_more f n' e' h') n e (next n e) (λ x. h (run_by_lem f n e ∙ x)) ∙ sym (run_by_lem f n e)

-- ---- two slices

module _ (f : ℕ) (b : Option ℕ)
    (ih : (a : Option ℕ) (e : Engine) → Lasts (run f (a ⊕ b) e) → run f (a ⊕ b) e ≡ (run f a e >>= λ e₁. run f b e₁)) where
  -- the second slice may have the fuel that the first did not use
  refuel : (r : Result Engine) → Lasts (r >>= λ e₁. run f b e₁) → (r >>= λ e₁. run f b e₁) ≡ (r >>= λ e₁. run (suc f) b e₁)
  refuel (refuse r) h = refl
  refuel (ok e) h = sym (run_more f b e h)

  split_at : (a : Option ℕ) (e : Engine) → Lasts (run f (a ⊕ b) e) → run f (a ⊕ b) e ≡ (run f a e >>= λ e₁. run (suc f) b e₁)
  split_at a e h = let q = ih a e h in q ∙ refuel (run f a e) (λ x. h (q ∙ x))

  split_after : (a : Option ℕ) (r : Result Visited) → spent a ≡ false → Lasts (r >>= λ v. after f (a ⊕ b) v)
      → (r >>= λ v. after f (a ⊕ b) v) ≡ ((r >>= λ v. after f a v) >>= λ e₁. run (suc f) b e₁)
  split_after a (refuse r) s l = refl
  split_after a (ok (acted e)) s l =
      let q = ap (λ (x : Option ℕ). run f x e) (less_plus a b s) in
      q ∙ split_at (less_one a) e (λ x. l (q ∙ x))
  split_after a (ok (passed e)) s l = split_at a e l

  split_by : (a : Option ℕ) (e : Engine) (o : Option (List ℕ × ℕ)) → next a e ≡ o → Lasts (run (suc f) (a ⊕ b) e)
      → run (suc f) (a ⊕ b) e ≡ (run_by f a e o >>= λ e₁. run (suc f) b e₁)
  split_by a e (some p) x l =
      let s = next_some a b e p x in
      let q = run_by_lem f (a ⊕ b) e ∙ ap (run_by f (a ⊕ b) e) s.1 in
      q ∙ split_after a (taken p e) s.0 (λ y. l (q ∙ y))
  split_by a e none x l = go (spent a) refl
    where
      go : (t : Bool) → spent a ≡ t → run (suc f) (a ⊕ b) e ≡ run (suc f) b e
      go true s = ap (λ (y : Option ℕ). run (suc f) y e) (plus_spent a b s)
      go false s =
          run_by_lem f (a ⊕ b) e ∙ ap (run_by f (a ⊕ b) e) (next_none a (a ⊕ b) e x s)
          ∙ sym (run_by_lem f b e ∙ ap (run_by f b e) (next_none a b e x s))

-- a run for both is a run for a and then one for b
pub run_split : (f : ℕ) (a b : Option ℕ) (e : Engine) → Lasts (run f (a ⊕ b) e) → run f (a ⊕ b) e ≡ (run f a e >>= λ e₁. run f b e₁)
run_split zero a b e l = absurd (l (no_fuel (a ⊕ b) e))
run_split (suc f) a b e l =
    split_by f b (λ a' e' l'. run_split f a' b e' l') a e (next a e) refl l
    ∙ sym (ap (λ (r : Result Engine). r >>= λ e₁. run (suc f) b e₁) (run_by_lem f a e))

-- ---- steps never go back

abbrev pub AtLeast : ℕ → Result Engine → Type 0
AtLeast n (ok e) = n ≤ e.steps
AtLeast n (refuse r) = Unit {0}

at_least : (m n : ℕ) (r : Result Engine) → m ≤ n → AtLeast n r → AtLeast m r
at_least m n (ok e) x y = omega arith
at_least m n (refuse r) x y = tt

module _ (f : ℕ) (ih : (n : Option ℕ) (e : Engine) → AtLeast e.steps (run f n e)) where
  least_after : (e₀ : Engine) (n : Option ℕ) (r : Result Visited) → Counts (frame e₀) r → AtLeast e₀.steps (r >>= λ v. after f n v)
  least_after e₀ n (ok (acted e)) c = let q : e.steps ≡ e₀.steps + 1 = steps_kept c in at_least e₀.steps e.steps (run f (less_one n) e) (omega arith) (ih (less_one n) e)
  least_after e₀ n (ok (passed e)) c = let q : e.steps ≡ e₀.steps = steps_kept c in at_least e₀.steps e.steps (run f n e) (omega arith) (ih n e)
  least_after e₀ n (refuse r) c = tt

  least_by : (n : Option ℕ) (e : Engine) (o : Option (List ℕ × ℕ)) → AtLeast e.steps (run_by f n e o)
  unfolding with_items with_dirty
  least_by n e none = omega arith
  least_by n e (some p) = least_after (with_items p.0 e) n (taken p e) (turn_counts p.1 (with_items p.0 e))

pub run_least : (f : ℕ) (n : Option ℕ) (e : Engine) → AtLeast e.steps (run f n e)
unfolding run
run_least zero n e = tt
run_least (suc f) n e = subst (AtLeast e.steps) (sym (run_by_lem f n e)) (least_by f (λ n' e'. run_least f n' e') n e (next n e))
