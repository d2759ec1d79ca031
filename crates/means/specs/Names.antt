-- The words that say which net has which name.
use Rattle.std.specs.Prelude.{ℕ, ◌+◌, ◌<◌, ◌≡◌, List, get_or}
use Rattle.std.proofs.Math.Option.{Option, none, some}
use Rattle.definitions.specs.State.{Engine}
use Rattle.definitions.specs.Visit.{get_net}

-- the word of the net of a name: its number and one more, 0 where no included net has the name
abbrev pub net_word : Option ℕ → ℕ
net_word none = 0
net_word (some k) = k + 1

-- word 64 + name says which net has the name
abbrev pub Called : List ℕ → Engine → Type 0
Called ws e = (name : ℕ) → name < 1024 → get_or ws (64 + name) 0 ≡ net_word (get_net e name)
