use Rattle.std.proofs.Common.{◌≡◌, ◌+◌, refl}
use Rattle.refusals.specs.Numbers.{number}
use Rattle.refusals.specs.contracts.Refusal.{the_type}
use Rattle.refusals.specs.declared.Refusal.{Refusal}
use Rattle.refusals.specs.declared.Refusal.TheVariants.{TooLittleLent, BadLength, BadVersion, BadLimit, BadBody, BadOrder, BadWiring, FreePathNamed, NoSlot, NoEntry, NoWait, NoChild, PortsDiffer, TooManySteps, OutputTooShort, NoImage, TooDeep, TooManyWires}
use denote.Enum.Declared.{tag_of}
use Rattle.refusals.proofs.Refusal.number.Goals as goal

tag_number : (e : Refusal) → tag_of the_type e + 1 ≡ number e
tag_number TooLittleLent = refl
tag_number BadLength = refl
tag_number BadVersion = refl
tag_number BadLimit = refl
tag_number BadBody = refl
tag_number BadOrder = refl
tag_number BadWiring = refl
tag_number FreePathNamed = refl
tag_number NoSlot = refl
tag_number NoEntry = refl
tag_number NoWait = refl
tag_number NoChild = refl
tag_number PortsDiffer = refl
tag_number TooManySteps = refl
tag_number OutputTooShort = refl
tag_number NoImage = refl
tag_number TooDeep = refl
tag_number TooManyWires = refl

pub returns : goal.returns
returns c = tag_number c.args.self
