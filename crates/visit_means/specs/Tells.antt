-- When what trying rules answered on the words is what it answered at level Engine.
use Rattle.std.specs.Prelude.{ℕ, ◌≡◌, refl, List}
use Rattle.net_file.specs.Lists.{Result, ok, refuse}
use Rattle.definitions.specs.State.{Engine}
use Rattle.definitions.specs.Visit.{Visited, acted, passed}
use Rattle.words.specs.Left.{Left}
use Rattle.tried.specs.Tries.{on_tried}
use Rattle.tried.specs.declared.Tried.{Tried}
use Rattle.tried.specs.declared.Tried.TheVariants.{Passed, Acted, Refused}
use Rattle.tries_laws.specs.Attempts.{go_on}

-- P holds of words and engine where it passed, A where it acted; a refusal has the same number
abbrev pub Tells : (P A : List ℕ → Engine → Type 0) → Left Tried → Result Visited → Type 0
Tells P A l (ok (passed e)) = (l.is ≡ Passed) × P l.ws e
Tells P A l (ok (acted e)) = (l.is ≡ Acted) × A l.ws e
Tells P A l (refuse r) = l.is ≡ Refused r

-- on with the next rules where one passed, on the words
abbrev pub then_try : Left Tried → Left Tried → Left Tried
then_try l rest = on_tried l.is rest (record { is = Acted; ws = l.ws }) (λ n. record { is = Refused n; ws = l.ws })

pub tells_next : (P A : List ℕ → Engine → Type 0) (l rest : Left Tried) (v : Result Visited) (k : Engine → Result Visited) → Tells P A l v
    → ((e : Engine) → P l.ws e → Tells P A rest (k e)) → Tells P A (then_try l rest) (go_on v k)
unfolding on_tried
tells_next P A l rest (ok (passed e)) k h f = rw h.0 (f e h.1)
tells_next P A l rest (ok (acted e)) k h f = rw h.0 (refl, h.1)
tells_next P A l rest (refuse r) k h f = rw h
