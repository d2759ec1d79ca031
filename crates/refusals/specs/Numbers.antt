-- The number of each refusal, and the refusal of each number. The documents and level Engine speak of refusals by their numbers.
use Rattle.std.specs.Prelude.{ℕ, ◌-◌, ◌≡◌, refl, List, [], ◌∷◌, get_or}
use Rattle.refusals.specs.declared.Refusal.{Refusal}
use Rattle.refusals.specs.declared.Refusal.TheVariants.{TooLittleLent, BadLength, BadVersion, BadLimit, BadBody, BadOrder, BadWiring, FreePathNamed, NoSlot, NoEntry, NoWait, NoChild, PortsDiffer, TooManySteps, OutputTooShort, NoImage, TooDeep, TooManyWires}

abbrev pub number : Refusal → ℕ
number TooLittleLent = 1
number BadLength = 2
number BadVersion = 3
number BadLimit = 4
number BadBody = 5
number BadOrder = 6
number BadWiring = 7
number FreePathNamed = 8
number NoSlot = 9
number NoEntry = 10
number NoWait = 11
number NoChild = 12
number PortsDiffer = 13
number TooManySteps = 14
number OutputTooShort = 15
number NoImage = 16
number TooDeep = 17
number TooManyWires = 18

abbrev pub all : List Refusal
all =
    TooLittleLent ∷ BadLength ∷ BadVersion ∷ BadLimit ∷ BadBody ∷ BadOrder ∷ BadWiring ∷ FreePathNamed ∷ NoSlot
    ∷ NoEntry ∷ NoWait ∷ NoChild ∷ PortsDiffer ∷ TooManySteps ∷ OutputTooShort ∷ NoImage ∷ TooDeep ∷ TooManyWires ∷ []

-- the refusal of a number; of one that is no refusal's, the first or the last
abbrev pub by : ℕ → Refusal
by n = get_or all (n - 1) TooManyWires

-- the numbers are kept apart
pub by_number : (e : Refusal) → by (number e) ≡ e
by_number TooLittleLent = refl
by_number BadLength = refl
by_number BadVersion = refl
by_number BadLimit = refl
by_number BadBody = refl
by_number BadOrder = refl
by_number BadWiring = refl
by_number FreePathNamed = refl
by_number NoSlot = refl
by_number NoEntry = refl
by_number NoWait = refl
by_number NoChild = refl
by_number PortsDiffer = refl
by_number TooManySteps = refl
by_number OutputTooShort = refl
by_number NoImage = refl
by_number TooDeep = refl
by_number TooManyWires = refl
