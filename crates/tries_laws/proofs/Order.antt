-- A rule on two nodes, some times straight (true) and some times flipped (false), where it is pure: what comes of it is told by which of the
use Rattle.std.specs.Prelude.{◌≡◌, Bool, true, false, not, ℕ}
use Rattle.std.proofs.Math.Path.{refl}
use Rattle.std.proofs.Common.{sym, ap, ◌∙◌, inl, inr, arith}
use Rattle.std.proofs.Math.Option.{Option, none, some}
use mathlib.Core.List.{List, [], ◌∷◌, map}
use Rattle.net_file.specs.Lists.{Result, ok, any}
use Rattle.definitions.specs.State.{Engine}
use Rattle.definitions.specs.Visit.{Visited, passed, Try, attempt, attempts}
use Rattle.words.specs.Choose.{pick}
use Rattle.tries_laws.specs.Attempts.{Still, Ends, Pure, still_next, ends_here}
use Rattle.tries_laws.specs.Order.{first_of, straight, flipped, tried_alike, once, once_straight, once_flipped, once_first}

pub tried_once : (f : Bool → Try) (e : Engine) → ((b : Bool) → Pure (f b) e) → (bs : List Bool) (s t o : Bool) → straight bs ≡ s → flipped bs ≡ t
    → (s ≡ true → t ≡ true → first_of bs ≡ some o) → attempts (map f bs) e ≡ attempts (map f (once s t o)) e
tried_once f e pure bs s t o i j h =
    tried_alike f e pure bs (once s t o) (i ∙ sym (once_straight s t o)) (j ∙ sym (once_flipped s t o)) (once_first bs s t o i j h)
