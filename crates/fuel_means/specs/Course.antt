-- Where a run of level Engine ends within k turns, so does the run on the words, after no more steps than there are.
use Prim.Native.Nat.{ℕ, zero, suc, ◌+◌, ◌<◌, ◌≤◌}
use Rattle.std.specs.Prelude.{◌≡◌, ◌≢◌, Bool, true, false, ◌||◌, List, [], ◌∷◌, ◌++◌, length}
use Rattle.std.proofs.Math.Path.{refl}
use Rattle.std.proofs.Common.{sym, ap, ◌∙◌, subst, arith, ne_eqb}
use Rattle.std.proofs.Math.Option.{Option, none, some}
use Rattle.std.proofs.lemmas.Bool.{eqb-false}
use Rattle.net_file.specs.Lists.{Result, ok, refuse}
use Rattle.net_file.specs.Values.{Name}
use Rattle.definitions.specs.Lists.{◌>>=◌, unsnoc}
use Rattle.definitions.specs.State.{Engine}
use Rattle.definitions.specs.Visit.{Visited, acted, passed, less_one}
use Rattle.definitions.specs.Run
use Rattle.definitions.specs.Run.{spent, next}
use Rattle.dirty_laws.specs.Listed.{unsnoc_snoc}
use Rattle.slice_laws.specs.Loop.{after, taken as entry, run_by, run_by_lem, Lasts}
use Rattle.words.specs.Choose.{eq_yes, eq_split}
use Rattle.layout.specs.Layout
use Rattle.layout.specs.Layout.{limit, dirty_length}
use Rattle.tried.specs.Tries.{on_tried}
use Rattle.run_slice.specs.Run.{turn, step_on, on_ran, run}
use Rattle.run_slice.specs.declared.Went.TheVariants.{Go}
use Rattle.run_slice.specs.declared.Went.TheVariants.{Refused as Went-as-Refused}
use Rattle.run_laws.specs.Course.{rests, ends, course, taken, alive, moves, not_both, moves_below, moves_alive, still, goes, refused, way, still_run, still_rests, still_course, goes_run, goes_rests, goes_ends, refused_run, refused_rests, refused_course}
use Rattle.means.specs.Means.{limit_word, Means}
use Rattle.run_means.specs.Run.{Tells, Most, Turns}

-- ---- whether level Engine has an entry where the words take a turn

steps_left : (n : Option ℕ) (most s : ℕ) → Most n most s → s < most → spent n ≡ false
unfolding spent
steps_left none most s m h = refl
steps_left (some k) most s m h = ne_eqb k 0 (λ z. omega arith)

limit_left : (l : Option ℕ) → limit_word l ≢ 0 → spent l ≡ false
unfolding spent
limit_left none h = refl
limit_left (some k) h = ne_eqb k 0 h

has_last : (xs : List ℕ) → length xs ≢ 0 → (p : List ℕ × ℕ) × (unsnoc xs ≡ some p)
has_last [] h = absurd (h refl)
has_last (x ∷ xs) h = go (unsnoc xs) refl
  where
    go : (o : Option (List ℕ × ℕ)) → unsnoc xs ≡ o → (p : List ℕ × ℕ) × (unsnoc (x ∷ xs) ≡ some p)
    go none e = (([], x), rw e refl)
    go (some p) e = ((x ∷ p.0, p.1), rw e refl)

alive_limit : (ws : List ℕ) → alive ws ≡ true → limit ws ≢ 0
unfolding alive
alive_limit ws a h = not_both _ a (sym (eq_yes (limit ws) 0 false _ h refl))

alive_dirty : (ws : List ℕ) → alive ws ≡ true → dirty_length ws ≢ 0
unfolding alive
alive_dirty ws a h =
    not_both _ a (eq_split (limit ws) 0 false _ (λ (b : Bool). b ≡ false) (λ q. refl) (λ q. sym (eq_yes (dirty_length ws) 0 false true h refl)))

-- the entry that is next
pub record Next (n : Option ℕ) (e : Engine) : Type 0 where
  pub p : List ℕ × ℕ
  pub is : next n e ≡ some p
  pub last : e.dirty.items ≡ p.0 ++ p.1 ∷ []
  pub limited : spent e.limit ≡ false
  pub wanted : spent n ≡ false

next_by : (n : Option ℕ) (e : Engine) (p : List ℕ × ℕ) → spent n ≡ false → spent e.limit ≡ false → unsnoc e.dirty.items ≡ some p → next n e ≡ some p
unfolding next
next_by n e p x y z =
    let b : (spent n || spent e.limit) ≡ false = ap (λ (t : Bool). t || spent e.limit) x ∙ y in
    subst (λ (t : Bool). elim t as (λ _. Option (List ℕ × ℕ)) [ true ↦ none | false ↦ unsnoc e.dirty.items ] ≡ some p) (sym b) z

next_is : (Named : ℕ → Name → Type 0) (ws : List ℕ) (e : Engine) → Means Named ws e → (n : Option ℕ) (most s : ℕ) → Most n most s → moves ws most s ≡ true → Next n e
next_is Named ws e m n most s left t =
    let a = moves_alive ws most s t in
    let x = steps_left n most s left (moves_below ws most s t) in
    let y = limit_left e.limit (λ q. alive_limit ws a (m.header.limit_is ∙ q)) in
    let z = has_last e.dirty.items (λ q. alive_dirty ws a (m.dirty.length_is ∙ q)) in
    record { p = z.0; is = next_by n e z.0 x y z.1; last = unsnoc_snoc e.dirty.items z.0 z.1; limited = y; wanted = x }

-- a slice that acted has one step less
less_most : (n : Option ℕ) (most s : ℕ) → Most n most s → spent n ≡ false → Most (less_one n) most (s + 1)
unfolding less_one spent
less_most none most s h x = h
less_most (some j) most s h x = let z : j ≢ 0 = eqb-false j 0 x in omega arith

-- ---- the loop

module _ (Named : ℕ → Name → Type 0) (file sets : List ℕ) (S : List ℕ → Engine → Type 0) (turns : Turns Named file sets S) where
  -- within k turns the run ends, after at most 16,777,216 steps
  abbrev pub Stays : List ℕ → ℕ → ℕ → ℕ → Type 0
  Stays ws most s k = (ends ws file sets most s k ≡ true) × (taken (run ws file sets most s k).is ≤ 16777216)

  -- that a run with k turns goes on so
  abbrev Onward : ℕ → ℕ → Type 0
  Onward k most = (n : Option ℕ) (s : ℕ) (w : List ℕ) (e : Engine) → S w e → Most n most s → s ≤ e.steps → Lasts (Run.run k n e) → Stays w most s k

  module _ (k : ℕ) (n : Option ℕ) (most s : ℕ) (ws : List ℕ) (e : Engine) (i : S ws e) (left : Most n most s) (b : s ≤ e.steps) where
    small : s ≤ 16777216
    small = let a = turns.stepped ws e i in omega arith

    rested : moves ws most s ≡ false → Stays ws most s (suc k)
    unfolding course
    rested m = (ap (λ c. c.1) (still_course ws file sets most s k m), rw (still_run ws file sets most s k m) small)

    taken_by : Onward k most → moves ws most s ≡ true → spent n ≡ false → (r : Result Visited) → Tells S e (turn ws file sets) r → Lasts (r >>= λ v. after k n v)
        → Stays ws most s (suc k)
    unfolding step_on on_tried course
    taken_by on m x (refuse r) t l =
        let g : step_on ws file sets s ≡ record { is = Went-as-Refused r; ws = (turn ws file sets).ws } = rw t refl in
        (ap (λ c. c.1) (refused_course ws file sets most s k r _ m g), rw (refused_run ws file sets most s k r _ m g) small)
    taken_by on m x (ok (passed e')) t l =
        let g : step_on ws file sets s ≡ record { is = Go s; ws = (turn ws file sets).ws } = rw t.0 refl in
        let c = t.2 in
        rw (goes_ends ws file sets most s k s _ m g, goes_run ws file sets most s k s _ m g) (on n s (turn ws file sets).ws e' t.1 left (omega arith) l)
    taken_by on m x (ok (acted e')) t l =
        let z : Layout.next s ≡ s + 1 = omega (arith, small) in
        let g : step_on ws file sets s ≡ record { is = Go (s + 1); ws = (turn ws file sets).ws } = rw (t.0, z) refl in
        let c = t.2 in
        rw (goes_ends ws file sets most s k (s + 1) _ m g, goes_run ws file sets most s k (s + 1) _ m g)
        (on (less_one n) (s + 1) (turn ws file sets).ws e' t.1 (less_most n most s left x) (omega arith) l)

    by : Onward k most → Lasts (Run.run (suc k) n e) → (t : Bool) → moves ws most s ≡ t → Stays ws most s (suc k)
    by on l false m = rested m
    by on l true m =
        let x = next_is Named ws e (turns.means ws e i) n most s left m in
        taken_by on m x.wanted (entry x.p e) (turns.tells ws e i x.p.0 x.p.1 x.last x.limited)
        (λ q. l (run_by_lem k n e ∙ ap (run_by k n e) x.is ∙ q))

  pub run_stays : (k : ℕ) (n : Option ℕ) (most s : ℕ) (ws : List ℕ) (e : Engine) → S ws e → Most n most s → s ≤ e.steps → Lasts (Run.run k n e) → Stays ws most s k
  unfolding Run.run
  run_stays zero n most s ws e i left b l = absurd (l refl)
  run_stays (suc k) n most s ws e i left b l =
      by k n most s ws e i left b (λ n' s' w e' i' m c l'. run_stays k n' most s' w e' i' m c l') l (moves ws most s) refl

-- ---- a run that ended rests where it is not refused

pub rests_by : (ws file sets : List ℕ) (most s k : ℕ) → most ≤ 4294967295 → ends ws file sets most s k ≡ true
    → rests ws file sets most s k ≡ on_ran (run ws file sets most s k).is (λ _. true) (λ _. false)
unfolding ends on_ran
rests_by ws file sets most s zero b e = not_both false e refl
rests_by ws file sets most s (suc k) b e = elim (way ws file sets most s) [
  | still m ↦ rw (still_run ws file sets most s k m) (still_rests ws file sets most s k m)
  | goes c w i m t ↦
      let h = moves_below ws most s m in
      let g = t s (omega arith) in
      rw (goes_run ws file sets most s k (s + c) w m g)
      (goes_rests ws file sets most s k (s + c) w m g ∙ rests_by w file sets most (s + c) k b (sym (goes_ends ws file sets most s k (s + c) w m g) ∙ e))
  | refused r w m t ↦ rw (refused_run ws file sets most s k r w m (t s)) (refused_rests ws file sets most s k r w m (t s))
]
