-- How far nets are told by the words at hand, and what that tells.
use Rattle.std.specs.Prelude.{ℕ, ◌≡◌, refl, Bool, true, false, List}
use Rattle.words.specs.Choose.{pick}
use Rattle.words.specs.Left.{Left}
use Rattle.wiring.specs.declared.Told.{Told}
use Rattle.wiring.specs.declared.Told.TheVariants.{Well, Not, Wide}

-- of the nets that are left, `wide` tells
unfoldable pub by_told : {R : Type 0} → (R → Bool) → Told R → Bool
by_told wide Well = true
by_told wide Not = false
by_told wide (Wide r) = wide r

-- by the two tests of a net: whether it fits, and whether it is well
pub by_tests : {R : Type 0} (wide : R → Bool) (f t : Bool) (r : Left (Told R)) (c counts : List ℕ) (rest : R)
    → by_told wide (pick f (pick t r (record { is = Not; ws = c })) (record { is = Wide rest; ws = counts })).is ≡ pick f (pick t (by_told wide r.is) false) (wide rest)
unfolding pick by_told
by_tests wide true true r c counts rest = refl
by_tests wide true false r c counts rest = refl
by_tests wide false t r c counts rest = refl
