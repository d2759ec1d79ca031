-- A rule on two nodes, some times straight (true) and some times flipped (false), where it is pure: what comes of it is told by which of the
-- two occur, and which is first.
use Rattle.std.specs.Prelude.{◌≡◌, Bool, true, false, not, ℕ}
use Rattle.std.proofs.Math.Path.{refl}
use Rattle.std.proofs.Common.{sym, ap, ◌∙◌, inl, inr, arith}
use Rattle.std.proofs.Math.Option.{Option, none, some}
use mathlib.Core.List.{List, [], ◌∷◌, map}
use Rattle.net_file.specs.Lists.{Result, ok, any}
use Rattle.definitions.specs.State.{Engine}
use Rattle.definitions.specs.Visit.{Visited, passed, Try, attempt, attempts}
use Rattle.words.specs.Choose.{pick}
use Rattle.tries_laws.specs.Attempts.{Still, Ends, Pure, still_next, ends_here}

abbrev pub first_of : List Bool → Option Bool
first_of [] = none
first_of (b ∷ bs) = some b

abbrev pub straight : List Bool → Bool
straight bs = any (λ b. b) bs

abbrev pub flipped : List Bool → Bool
flipped bs = any not bs

module _ (f : Bool → Try) (e : Engine) where
  all_still : Still (f true) e → Still (f false) e → (bs : List Bool) → attempts (map f bs) e ≡ ok (passed e)
  unfolding attempts
  all_still h g [] = refl
  all_still h g (true ∷ bs) = still_next (f true) (map f bs) e h ∙ all_still h g bs
  all_still h g (false ∷ bs) = still_next (f false) (map f bs) e g ∙ all_still h g bs

  straight_ends : Ends (f true) e → Still (f false) e → (bs : List Bool) → attempts (map f bs) e ≡ pick (straight bs) (attempt (f true) e) (ok (passed e))
  unfolding attempts pick
  straight_ends h g [] = refl
  straight_ends h g (true ∷ bs) = ends_here (f true) (map f bs) e h
  straight_ends h g (false ∷ bs) = still_next (f false) (map f bs) e g ∙ straight_ends h g bs

  flipped_ends : Still (f true) e → Ends (f false) e → (bs : List Bool) → attempts (map f bs) e ≡ pick (flipped bs) (attempt (f false) e) (ok (passed e))
  unfolding attempts pick
  flipped_ends h g [] = refl
  flipped_ends h g (true ∷ bs) = still_next (f true) (map f bs) e h ∙ flipped_ends h g bs
  flipped_ends h g (false ∷ bs) = ends_here (f false) (map f bs) e g

  abbrev on_first : Option Bool → Result Visited
  on_first none = ok (passed e)
  on_first (some b) = attempt (f b) e

  first_ends : Ends (f true) e → Ends (f false) e → (bs : List Bool) → attempts (map f bs) e ≡ on_first (first_of bs)
  unfolding attempts
  first_ends h g [] = refl
  first_ends h g (true ∷ bs) = ends_here (f true) (map f bs) e h
  first_ends h g (false ∷ bs) = ends_here (f false) (map f bs) e g

  pub tried_alike : ((b : Bool) → Pure (f b) e) → (bs cs : List Bool) → straight bs ≡ straight cs → flipped bs ≡ flipped cs → first_of bs ≡ first_of cs
      → attempts (map f bs) e ≡ attempts (map f cs) e
  tried_alike pure bs cs s t o = go (pure true) (pure false)
    where
      passes : Result Visited
      passes = ok (passed e)

      go : Pure (f true) e → Pure (f false) e → attempts (map f bs) e ≡ attempts (map f cs) e
      go (inl h) (inl g) = all_still h g bs ∙ sym (all_still h g cs)
      go (inl h) (inr g) = flipped_ends h g bs ∙ ap (λ (u : Bool). pick u (attempt (f false) e) passes) t ∙ sym (flipped_ends h g cs)
      go (inr h) (inl g) = straight_ends h g bs ∙ ap (λ (u : Bool). pick u (attempt (f true) e) passes) s ∙ sym (straight_ends h g cs)
      go (inr h) (inr g) = first_ends h g bs ∙ ap on_first o ∙ sym (first_ends h g cs)

-- ---- each once, in order

-- straight or not, flipped or not, and which is first where both are
unfoldable pub once : Bool → Bool → Bool → List Bool
once true true true = true ∷ false ∷ []
once true true false = false ∷ true ∷ []
once true false o = true ∷ []
once false true o = false ∷ []
once false false o = []

pub once_straight : (s t o : Bool) → straight (once s t o) ≡ s
unfolding once
once_straight true true true = refl
once_straight true true false = refl
once_straight true false o = refl
once_straight false true o = refl
once_straight false false o = refl

pub once_flipped : (s t o : Bool) → flipped (once s t o) ≡ t
unfolding once
once_flipped true true true = refl
once_flipped true true false = refl
once_flipped true false o = refl
once_flipped false true o = refl
once_flipped false false o = refl

pub neither_is : (bs : List Bool) → straight bs ≡ false → flipped bs ≡ false → bs ≡ []
neither_is [] s t = refl
neither_is (true ∷ bs) s t = let z : ◌≡◌ {A = ℕ} 0 1 = cc in absurd (omega arith)
neither_is (false ∷ bs) s t = let z : ◌≡◌ {A = ℕ} 0 1 = cc in absurd (omega arith)

pub straight_first : (bs : List Bool) → straight bs ≡ true → flipped bs ≡ false → first_of bs ≡ some true
straight_first [] s t = let z : ◌≡◌ {A = ℕ} 0 1 = cc in absurd (omega arith)
straight_first (true ∷ bs) s t = refl
straight_first (false ∷ bs) s t = let z : ◌≡◌ {A = ℕ} 0 1 = cc in absurd (omega arith)

pub flipped_first : (bs : List Bool) → straight bs ≡ false → flipped bs ≡ true → first_of bs ≡ some false
flipped_first [] s t = let z : ◌≡◌ {A = ℕ} 0 1 = cc in absurd (omega arith)
flipped_first (true ∷ bs) s t = let z : ◌≡◌ {A = ℕ} 0 1 = cc in absurd (omega arith)
flipped_first (false ∷ bs) s t = refl

pub once_first : (bs : List Bool) (s t o : Bool) → straight bs ≡ s → flipped bs ≡ t → (s ≡ true → t ≡ true → first_of bs ≡ some o) → first_of bs ≡ first_of (once s t o)
unfolding once
once_first bs true true true i j h = h refl refl
once_first bs true true false i j h = h refl refl
once_first bs true false o i j h = straight_first bs i j
once_first bs false true o i j h = flipped_first bs i j
once_first bs false false o i j h = ap first_of (neither_is bs i j)
