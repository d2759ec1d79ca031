-- A slice on the words and one of level Engine go side by side, turn by turn, where each turn does.
use Prim.Native.Nat.{ℕ, zero, suc, ◌+◌, ◌-◌, ◌<◌, ◌≤◌}
use Rattle.std.proofs.Math.Path.{◌≡◌, refl, sym, ap, subst}
use Rattle.std.proofs.Common.{◌∙◌}
use Rattle.std.specs.Prelude.{◌≢◌, Bool, ◌||◌, get_or, eqb}
use Rattle.std.proofs.Math.Bool.{true, false}
use Rattle.std.proofs.Math.Option.{Option, none, some}
use mathlib.Core.List.{List, [], ◌∷◌, ◌++◌}
use Rattle.std.proofs.Math.ListN.{length, length-append}
use native.Mathlib.Omega.{arith}
use borrow.Author.Tests.{eqb-true, eqb-false}
use Rattle.net_file.specs.Lists.{Result, ok, refuse}
use Rattle.net_file.specs.Values.{Name}
use Rattle.definitions.specs.Lists.{◌>>=◌, unsnoc}
use Rattle.definitions.specs.State.{Engine}
use Rattle.definitions.specs.Visit.{Visited, acted, passed, less_one}
use Rattle.definitions.specs.Run
use Rattle.definitions.specs.Run.{with_items, spent, next}
use Rattle.dirty_laws.specs.Listed.{unsnoc_snoc}
use Rattle.slice_laws.specs.Loop.{after, taken, run_by, run_by_lem}
use Rattle.words.specs.Choose.{pick, eq_yes, eq_no, eq_split, lt_no, pick_true, pick_false}
use Rattle.words.specs.Left.{Left}
use Rattle.layout.specs.Layout
use Rattle.layout.specs.Layout.{limit, dirty_length}
use Rattle.tried.specs.Tries.{on_tried}
use Rattle.tried.specs.declared.Tried.{Tried}
use Rattle.tried.specs.declared.Tried.TheVariants.{Passed, Acted, Refused}
use Rattle.run_slice.specs.Run.{turn, on_went, step_on, go_on, run}
use Rattle.run_slice.specs.declared.Ran.{Ran}
use Rattle.run_slice.specs.declared.Ran.TheVariants.{Rested}
use Rattle.run_slice.specs.declared.Ran.TheVariants.{Refused as Ran-as-Refused}
use Rattle.run_slice.specs.declared.Went.{Went}
use Rattle.run_slice.specs.declared.Went.TheVariants.{Go, Rest}
use Rattle.run_slice.specs.declared.Went.TheVariants.{Refused as Went-as-Refused}
use Rattle.run_laws.specs.Course.{alive, moves, go_on_moves, alive_moves, dead_rests}
use Rattle.means.specs.Means.{limit_word, Means}

-- what a turn tells: the words answer as level Engine does and are again as S says, and one that acted counts a step
abbrev pub Tells : (List ℕ → Engine → Type 0) → Engine → Left Tried → Result Visited → Type 0
Tells S e l (refuse r) = l.is ≡ Refused r
Tells S e l (ok (passed e')) = (l.is ≡ Passed) × S l.ws e' × (e'.steps ≡ e.steps)
Tells S e l (ok (acted e')) = (l.is ≡ Acted) × S l.ws e' × (e'.steps ≡ e.steps + 1)

-- how a slice ends, with as many steps as were counted since; out of fuel (0) nothing is said
abbrev pub Ends : (List ℕ → Engine → Type 0) → ℕ → Left Ran → Result Engine → Type 0
Ends S base l (ok e) = (l.is ≡ Rested (e.steps - base)) × S l.ws e
Ends S base l (refuse zero) = Unit {0}
Ends S base l (refuse (suc r)) = (s : ℕ) × (l.is ≡ Ran-as-Refused s (suc r))

-- after s steps of `most` so many are left; none is 4,294,967,295
abbrev pub Most : Option ℕ → ℕ → ℕ → Type 0
Most none most s = most ≡ 4294967295
Most (some k) most s = most ≡ s + k

-- ---- whether there is a turn

spent_over : (n : Option ℕ) (most s : ℕ) → Most n most s → spent n ≡ true → most ≤ s
unfolding spent
spent_over none most s m h = absurd (let z : ◌≡◌ {A = ℕ} 0 1 = cc in omega arith)
spent_over (some k) most s m h = let z = eqb-true k 0 h in omega arith

left_below : (n : Option ℕ) (most s : ℕ) → Most n most s → s < 4294967295 → spent n ≡ false → s < most
unfolding spent
left_below none most s m b h = omega arith
left_below (some k) most s m b h = let z : k ≢ 0 = eqb-false k 0 h in omega arith

limit_spent : (l : Option ℕ) → spent l ≡ true → limit_word l ≡ 0
unfolding spent
limit_spent none h = absurd (let z : ◌≡◌ {A = ℕ} 0 1 = cc in omega arith)
limit_spent (some k) h = eqb-true k 0 h

limit_left : (l : Option ℕ) → spent l ≡ false → limit_word l ≢ 0
unfolding spent
limit_left none h = omega arith
limit_left (some k) h = eqb-false k 0 h

no_last : (xs : List ℕ) → ◌≡◌ {A = Option (List ℕ × ℕ)} (unsnoc xs) none → length xs ≡ 0
no_last [] h = refl
no_last (x ∷ xs) h = absurd (go (unsnoc xs) h)
  where
    go : (o : Option (List ℕ × ℕ)) → ◌≡◌ {A = Option (List ℕ × ℕ)} (elim o as (λ _. Option (List ℕ × ℕ)) [ none ↦ some ([], x) | some p ↦ some (x ∷ p.0, p.1) ]) none → ⊥
    go none h = let z : ◌≡◌ {A = ℕ} 0 1 = cc in omega arith
    go (some p) h = let z : ◌≡◌ {A = ℕ} 0 1 = cc in omega arith

alive_limit : (ws : List ℕ) → limit ws ≡ 0 → false ≡ alive ws
unfolding alive
alive_limit ws h = eq_yes (limit ws) 0 false _ h refl

alive_empty : (ws : List ℕ) → dirty_length ws ≡ 0 → alive ws ≡ false
unfolding alive
alive_empty ws h = eq_split (limit ws) 0 false _ (λ (b : Bool). b ≡ false) (λ q. refl) (λ q. sym (eq_yes (dirty_length ws) 0 false true h refl))

alive_left : (ws : List ℕ) → limit ws ≢ 0 → dirty_length ws ≢ 0 → alive ws ≡ true
unfolding alive
alive_left ws h k = sym (eq_no (limit ws) 0 false _ h (eq_no (dirty_length ws) 0 false true k refl))

-- `next`, by its tests
abbrev next_by : Bool → Bool → Option (List ℕ × ℕ) → Option (List ℕ × ℕ)
next_by t u o = elim (t || u) [ true ↦ none | false ↦ o ]

module _ (Named : ℕ → Name → Type 0) (ws : List ℕ) (e : Engine) (m : Means Named ws e) (n : Option ℕ) (most s : ℕ) (left : Most n most s) (small : s < 4294967295) where
  over : most ≤ s → moves ws most s ≡ false
  unfolding moves
  over h = sym (lt_no s most (alive ws) false h refl)

  limited : limit ws ≡ 0 → moves ws most s ≡ false
  limited h = dead_rests ws most s (sym (alive_limit ws h))

  empty : dirty_length ws ≡ 0 → moves ws most s ≡ false
  empty h = dead_rests ws most s (alive_empty ws h)

  -- no entry is next: the words rest
  rests : next n e ≡ none → moves ws most s ≡ false
  unfolding next
  rests = go (spent n) (spent e.limit) (unsnoc e.dirty.items) refl refl refl
    where
      go : (t u : Bool) (o : Option (List ℕ × ℕ)) → spent n ≡ t → spent e.limit ≡ u → unsnoc e.dirty.items ≡ o → next_by t u o ≡ none → moves ws most s ≡ false
      go true u o x y z h = over (spent_over n most s left x)
      go false true o x y z h = limited (m.header.limit_is ∙ limit_spent e.limit y)
      go false false none x y z h = empty (m.dirty.length_is ∙ no_last e.dirty.items z)
      go false false (some p) x y z h = absurd (let z : ◌≡◌ {A = ℕ} 0 1 = cc in omega arith)

  -- an entry is next: the words take a turn
  goes : (p : List ℕ × ℕ) → next n e ≡ some p → (moves ws most s ≡ true) × (e.dirty.items ≡ p.0 ++ p.1 ∷ []) × (spent e.limit ≡ false) × (spent n ≡ false)
  unfolding next
  goes p = go (spent n) (spent e.limit) (unsnoc e.dirty.items) refl refl refl
    where
      go : (t u : Bool) (o : Option (List ℕ × ℕ)) → spent n ≡ t → spent e.limit ≡ u → unsnoc e.dirty.items ≡ o → next_by t u o ≡ some p
          → (moves ws most s ≡ true) × (e.dirty.items ≡ p.0 ++ p.1 ∷ []) × (spent e.limit ≡ false) × (spent n ≡ false)
      go true u o x y z h = absurd (let z : ◌≡◌ {A = ℕ} 0 1 = cc in omega arith)
      go false true o x y z h = absurd (let z : ◌≡◌ {A = ℕ} 0 1 = cc in omega arith)
      go false false o x y z h =
          let last = unsnoc_snoc e.dirty.items p (z ∙ h) in
          let long : length e.dirty.items ≡ length p.0 + 1 = ap (λ (l : List ℕ). length l) last ∙ length-append p.0 (p.1 ∷ []) in
          let some_left : dirty_length ws ≢ 0 = let a = m.dirty.length_is in omega arith in
          let not_spent : limit ws ≢ 0 = λ q. limit_left e.limit y (sym m.header.limit_is ∙ q) in
          (alive_moves ws most s (left_below n most s left small x) (alive_left ws not_spent some_left), last, y, x)

-- ---- the loop

-- what is asked of S: its words mean its engine, whose steps are counted up to the most there are; a turn tells
pub record Turns (Named : ℕ → Name → Type 0) (file sets : List ℕ) (S : List ℕ → Engine → Type 0) : Type 0 where
  pub means : (ws : List ℕ) (e : Engine) → S ws e → Means Named ws e
  pub stepped : (ws : List ℕ) (e : Engine) → S ws e → e.steps ≤ 16777216
  pub tells : (ws : List ℕ) (e : Engine) → S ws e → (xs : List ℕ) (n : ℕ) → e.dirty.items ≡ xs ++ n ∷ [] → spent e.limit ≡ false
      → Tells S e (turn ws file sets) (Run.turn n (with_items xs e))

module _ (Named : ℕ → Name → Type 0) (file sets : List ℕ) (S : List ℕ → Engine → Type 0) (turns : Turns Named file sets S) where
  -- the words' ways: they rest, or take a turn, that passes, acts or is refused
  module _ (ws : List ℕ) (most s k : ℕ) where
    run_rests : moves ws most s ≡ false → run ws file sets most s (suc k) ≡ record { is = Rested s; ws = ws }
    unfolding run on_went pick
    run_rests h = rw (go_on_moves ws file sets most s, h)

    module _ (h : moves ws most s ≡ true) where
      run_passed : (turn ws file sets).is ≡ Passed → run ws file sets most s (suc k) ≡ run (turn ws file sets).ws file sets most s k
      unfolding run on_went step_on on_tried pick
      run_passed t = rw (go_on_moves ws file sets most s, h, t)

      run_acted : (turn ws file sets).is ≡ Acted → run ws file sets most s (suc k) ≡ run (turn ws file sets).ws file sets most (Layout.next s) k
      unfolding run on_went step_on on_tried pick
      run_acted t = rw (go_on_moves ws file sets most s, h, t)

      run_refused : (r : ℕ) → (turn ws file sets).is ≡ Refused r → run ws file sets most s (suc k) ≡ record { is = Ran-as-Refused s r; ws = (turn ws file sets).ws }
      unfolding run on_went step_on on_tried pick
      run_refused r t = rw (go_on_moves ws file sets most s, h, t)

  -- a slice that acted has one step less
  less_most : (n : Option ℕ) (most s : ℕ) → Most n most s → spent n ≡ false → Most (less_one n) most (s + 1)
  unfolding less_one spent
  less_most none most s h x = h
  less_most (some j) most s h x = let z : j ≢ 0 = eqb-false j 0 x in omega arith

  refused : (base s r : ℕ) (l : Left Ran) → l.is ≡ Ran-as-Refused s r → Ends S base l (refuse r)
  refused base s zero l h = tt
  refused base s (suc r) l h = (s, h)

  -- that a run with k turns goes on so
  abbrev Onward : ℕ → ℕ → ℕ → Type 0
  Onward k most base = (n : Option ℕ) (s : ℕ) (w : List ℕ) (e : Engine) → S w e → Most n most s → base + s ≡ e.steps → Ends S base (run w file sets most s k) (Run.run k n e)

  pub run_means : (k : ℕ) (n : Option ℕ) (most s base : ℕ) (ws : List ℕ) (e : Engine) → S ws e → Most n most s → base + s ≡ e.steps
      → Ends S base (run ws file sets most s k) (Run.run k n e)
  unfolding Run.run
  run_means zero n most s base ws e i left b = tt
  run_means (suc k) n most s base ws e i left b = subst (λ (r : Result Engine). Ends S base (run ws file sets most s (suc k)) r) (sym (run_by_lem k n e))
      (by (λ n' s' w e' i' l b'. run_means k n' most s' base w e' i' l b') (next n e) refl)
    where
      m : Means Named ws e
      m = turns.means ws e i

      small : s < 4294967295
      small = let a = turns.stepped ws e i in omega arith

      taken_by : Onward k most base → moves ws most s ≡ true → spent n ≡ false → (r : Result Visited) → Tells S e (turn ws file sets) r
          → Ends S base (run ws file sets most s (suc k)) (r >>= λ v. after k n v)
      taken_by on h x (refuse r) t = refused base s r (run ws file sets most s (suc k)) (ap (λ (l : Left Ran). l.is) (run_refused ws most s k h r t))
      taken_by on h x (ok (passed e')) t = rw (run_passed ws most s k h t.0) (on n s (turn ws file sets).ws e' t.1 left (b ∙ sym t.2))
      taken_by on h x (ok (acted e')) t =
          let z : Layout.next s ≡ s + 1 = omega (arith, small) in
          let c = t.2 in
          rw (run_acted ws most s k h t.0, z) (on (less_one n) (s + 1) (turn ws file sets).ws e' t.1 (less_most n most s left x) (omega arith))

      by : Onward k most base → (o : Option (List ℕ × ℕ)) → next n e ≡ o → Ends S base (run ws file sets most s (suc k)) (run_by k n e o)
      by on none h = rw (run_rests ws most s k (rests Named ws e m n most s left small h)) (ap (λ (j : ℕ). Rested j) (omega arith), i)
      by on (some p) h =
          let g = goes Named ws e m n most s left small p h in
          taken_by on g.0 g.3 (taken p e) (turns.tells ws e i p.0 p.1 g.1 g.2)

  -- a slice of at most n steps, 4,294,967,295 as none
  pub slice_means : (k : ℕ) (n : Option ℕ) (most : ℕ) (ws : List ℕ) (e : Engine) → S ws e → Most n most 0 → Ends S e.steps (run ws file sets most 0 k) (Run.run k n e)
  slice_means k n most ws e i left = run_means k n most 0 e.steps ws e i left (omega arith)
