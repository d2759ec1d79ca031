-- The course of a run: whether it comes to rest within its turns, and what a turn leads to. Level Words.
use Rattle.std.specs.Prelude.{ℕ, zero, suc, ◌+◌, ◌<◌, ◌≤◌, Bool, ◌≡◌, refl, ◌⊎◌, List, eqb, ltb}
use Rattle.std.proofs.Math.Bool.{true, false}
use Rattle.std.proofs.Common.{sym, ◌∙◌, inl, inr, ltb-true}
use native.Mathlib.Omega.{arith}
use Rattle.words.specs.Choose.{pick, if_eq, if_lt, lt_yes, lt_split, lt_cases}
use Rattle.words.specs.Left.{Left}
use Rattle.layout.specs.Layout.{next, limit, dirty_length}
use Rattle.tried.specs.Tries.{on_tried}
use Rattle.tried.specs.declared.Tried.{Tried}
use Rattle.tried.specs.declared.Tried.TheVariants.{Passed, Acted, Refused}
use Rattle.run_slice.specs.Run.{turn, on_went, step_on, over, go_on, run}
use Rattle.run_slice.specs.declared.Ran.{Ran}
use Rattle.run_slice.specs.declared.Ran.TheVariants.{Rested}
use Rattle.run_slice.specs.declared.Ran.TheVariants.{Refused as Ran-as-Refused}
use Rattle.run_slice.specs.declared.Went.TheVariants.{Go, Rest}
use Rattle.run_slice.specs.declared.Went.TheVariants.{Refused as Went-as-Refused}

-- the words ask for a turn: the limit is not spent, and there is an entry
unfoldable pub alive : List ℕ → Bool
alive ws = if_eq (limit ws) 0 false (if_eq (dirty_length ws) 0 false true)

-- a turn is taken after s steps of `most`
unfoldable pub moves : List ℕ → ℕ → ℕ → Bool
moves ws most s = if_lt s most (alive ws) false

-- within k turns the run comes to a place where it rests
unfoldable pub rests : List ℕ → List ℕ → List ℕ → ℕ → ℕ → ℕ → Bool
rests ws file sets most s zero = false
rests ws file sets most s (suc k) =
    let g = step_on ws file sets s in
    pick (moves ws most s) (on_went g.is (λ s'. rests g.ws file sets most s' k) true (λ r. false)) true

-- within k turns the run rests or is refused
unfoldable pub ends : List ℕ → List ℕ → List ℕ → ℕ → ℕ → ℕ → Bool
ends ws file sets most s zero = false
ends ws file sets most s (suc k) =
    let g = step_on ws file sets s in
    pick (moves ws most s) (on_went g.is (λ s'. ends g.ws file sets most s' k) true (λ r. true)) true

-- what a run leaves, whether it ends, and whether it rests
unfoldable pub course : List ℕ → List ℕ → List ℕ → ℕ → ℕ → ℕ → Left Ran × Bool × Bool
course ws file sets most s k = (run ws file sets most s k, ends ws file sets most s k, rests ws file sets most s k)

-- the steps of a run's answer
abbrev pub taken : Ran → ℕ
taken (Rested s) = s
taken (Ran-as-Refused s r) = s

-- a run that rests after s steps
abbrev pub at_rest : ℕ → List ℕ → Left Ran
at_rest s ws = record { is = Rested s; ws = ws }

-- a run that is refused by r after s steps
abbrev pub at_refusal : ℕ → ℕ → List ℕ → Left Ran
at_refusal s r ws = record { is = Ran-as-Refused s r; ws = ws }

pub not_both : {P : Type 0} (b : Bool) → b ≡ true → b ≡ false → P
not_both true e f = let z : ◌≡◌ {A = ℕ} 0 1 = cc in absurd (omega arith)
not_both false e f = let z : ◌≡◌ {A = ℕ} 0 1 = cc in absurd (omega arith)

-- ---- `go_on` by `moves`

order : {A : Type 0} (short spent empty : Bool) (x y : A) → pick (pick short spent true) y (pick empty y x) ≡ pick (pick short (pick spent false (pick empty false true)) false) x y
unfolding pick
order true true true x y = refl
order true true false x y = refl
order true false true x y = refl
order true false false x y = refl
order false true true x y = refl
order false true false x y = refl
order false false true x y = refl
order false false false x y = refl

-- a turn is taken where `moves` holds; elsewhere the run rests
pub go_on_moves : (ws file sets : List ℕ) (most s : ℕ) → go_on ws file sets most s ≡ pick (moves ws most s) (step_on ws file sets s) (record { is = Rest; ws = ws })
unfolding go_on over moves alive if_eq if_lt
go_on_moves ws file sets most s = order (ltb s most) (eqb (limit ws) 0) (eqb (dirty_length ws) 0) (step_on ws file sets s) (record { is = Rest; ws = ws })

kept : (t : Bool) → pick t true false ≡ t
unfolding pick
kept true = refl
kept false = refl

-- no turn is taken where no step is left or the dirty list is empty
pub moves_over : (ws : List ℕ) (most s : ℕ) → moves ws most s ≡ pick (over ws most s) false (if_eq (dirty_length ws) 0 false true)
unfolding over moves alive if_eq if_lt
moves_over ws most s = sym (order (ltb s most) (eqb (limit ws) 0) (eqb (dirty_length ws) 0) true false ∙ kept _)

picked : (t b : Bool) → pick t b false ≡ true → t ≡ true
unfolding pick
picked true b e = refl
picked false b e = e

pub moves_below : (ws : List ℕ) (most s : ℕ) → moves ws most s ≡ true → s < most
unfolding moves if_lt
moves_below ws most s e = ltb-true s most (picked (ltb s most) (alive ws) e)

picked_other : (t b : Bool) → pick t b false ≡ true → b ≡ true
unfolding pick
picked_other true b e = e
picked_other false b e = not_both false e refl

pub moves_alive : (ws : List ℕ) (most s : ℕ) → moves ws most s ≡ true → alive ws ≡ true
unfolding moves if_lt
moves_alive ws most s e = picked_other (ltb s most) (alive ws) e

pub alive_moves : (ws : List ℕ) (most s : ℕ) → s < most → alive ws ≡ true → moves ws most s ≡ true
unfolding moves
alive_moves ws most s h e = sym (lt_yes s most (alive ws) false h (sym e))

pub dead_rests : (ws : List ℕ) (most s : ℕ) → alive ws ≡ false → moves ws most s ≡ false
unfolding moves
dead_rests ws most s e = rw e (lt_split s most false false (λ (b : Bool). b ≡ false) (λ h. refl) (λ h. refl))

pub stops : (ws : List ℕ) (most s : ℕ) → moves ws most s ≡ false → (most ≤ s) ⊎ (alive ws ≡ false)
unfolding moves
stops ws most s e = elim (lt_cases s most (alive ws) false) [ inl p ↦ inr (sym p.1 ∙ e) | inr p ↦ inl p.0 ]

-- ---- the ways of a turn

-- what comes after s steps of `most`: rest; a turn that costs c steps and leaves w; or a refusal
pub data Way (ws file sets : List ℕ) (most s : ℕ) : Type 0 where
  still : moves ws most s ≡ false → Way ws file sets most s
  goes : (c : ℕ) (w : List ℕ) → c ≤ 1 → moves ws most s ≡ true → ((x : ℕ) → x < 4294967295 → step_on ws file sets x ≡ record { is = Go (x + c); ws = w }) → Way ws file sets most s
  refused : (r : ℕ) (w : List ℕ) → moves ws most s ≡ true → ((x : ℕ) → step_on ws file sets x ≡ record { is = Went-as-Refused r; ws = w }) → Way ws file sets most s

module _ (ws file sets : List ℕ) (most s : ℕ) where
  way_by : (b : Bool) (t : Tried) → moves ws most s ≡ b → (turn ws file sets).is ≡ t → Way ws file sets most s
  unfolding step_on on_tried
  way_by false t m e = still m
  way_by true Passed m e = goes 0 (turn ws file sets).ws (omega arith) m (λ x h. let z : x + 0 ≡ x = omega arith in rw (e, z))
  way_by true Acted m e = goes 1 (turn ws file sets).ws (omega arith) m (λ x h. let z : next x ≡ x + 1 = omega arith in rw (e, z))
  way_by true (Refused r) m e = refused r (turn ws file sets).ws m (λ x. rw e)

  pub way : Way ws file sets most s
  way = way_by (moves ws most s) (turn ws file sets).is refl refl

-- ---- what the course is on each way

module _ (ws file sets : List ℕ) (most s k : ℕ) where
  pub still_run : moves ws most s ≡ false → run ws file sets most s (suc k) ≡ at_rest s ws
  unfolding run on_went pick
  still_run m = rw (go_on_moves, m)

  pub still_rests : moves ws most s ≡ false → rests ws file sets most s (suc k) ≡ true
  unfolding rests pick
  still_rests m = rw m

  pub still_course : moves ws most s ≡ false → course ws file sets most s (suc k) ≡ (at_rest s ws, true, true)
  unfolding course ends pick
  still_course m = rw (still_run m, still_rests m, m)

  module _ (s' : ℕ) (w : List ℕ) (m : moves ws most s ≡ true) (e : step_on ws file sets s ≡ record { is = Go s'; ws = w }) where
    pub goes_run : run ws file sets most s (suc k) ≡ run w file sets most s' k
    unfolding run on_went pick
    goes_run = rw (go_on_moves, m, e)

    pub goes_rests : rests ws file sets most s (suc k) ≡ rests w file sets most s' k
    unfolding rests on_went pick
    goes_rests = rw (m, e)

    pub goes_ends : ends ws file sets most s (suc k) ≡ ends w file sets most s' k
    unfolding ends on_went pick
    goes_ends = rw (m, e)

    pub goes_course : course ws file sets most s (suc k) ≡ course w file sets most s' k
    unfolding course
    goes_course = rw (goes_run, goes_ends, goes_rests)

  module _ (r : ℕ) (w : List ℕ) (m : moves ws most s ≡ true) (e : step_on ws file sets s ≡ record { is = Went-as-Refused r; ws = w }) where
    pub refused_run : run ws file sets most s (suc k) ≡ at_refusal s r w
    unfolding run on_went pick
    refused_run = rw (go_on_moves, m, e)

    pub refused_rests : rests ws file sets most s (suc k) ≡ false
    unfolding rests on_went pick
    refused_rests = rw (m, e)

    pub refused_course : course ws file sets most s (suc k) ≡ (at_refusal s r w, true, false)
    unfolding course ends on_went pick
    refused_course = rw (refused_run, refused_rests, m, e)
