-- What is in use of an image's entries and slots. docs/IMAGE.md, "Node lists" and "Slots", lists the same conditions. Level Words.
use Rattle.std.specs.Prelude.{ℕ, Bool, false, List, replicate}
use Rattle.words.specs.Choose.{pick}
use Rattle.words.specs.Left.{Left}
use Rattle.layout.specs.Layout.{nets}
use Rattle.marks.specs.Walks.{says, each_with}
use Rattle.image_chains.specs.Chains.{pool_holds}
use Rattle.image_chains.specs.declared.Pool.TheVariants.{Slots, Entries}
use Rattle.image_lists.specs.Lists.{list_holds}

-- an answer, and if it is yes, the next
unfoldable pub then : Left Bool → (List ℕ → Left Bool) → Left Bool
then r f = pick r.is (f r.ws) (says false r.ws)

-- lists, free entries, vacant slots
unfoldable pub all_hold : List ℕ → List ℕ → Left Bool
all_hold ws marks = then (each_with (list_holds ws) marks 1 (nets ws)) (λ m. then (pool_holds Entries ws m) (pool_holds Slots ws))

-- with no mark at first
unfoldable pub pools_hold : List ℕ → Bool
pools_hold ws = (all_hold ws (replicate 20481 0)).is
