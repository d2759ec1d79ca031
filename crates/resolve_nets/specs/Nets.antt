-- The nets of a tree file, one after another, written with their links resolved, on words and bytes. Level Words.
use Rattle.std.specs.Prelude.{ℕ, List}
use Rattle.resolve_walk.specs.Penned.{Stepped, Penned}
use Rattle.resolve_walk.specs.Walk.{trees}
use Rattle.resolve_net.specs.Net.{net}

-- k nets from a place of the file on: as trees follow each other, so do nets
unfoldable pub nets : List ℕ → ℕ → List ℕ → List ℕ → ℕ → ℕ → Penned Stepped
nets s k ws out at to = trees (net s) k ws out at to
