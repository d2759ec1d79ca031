-- What begin and slices leave in the words besides what they mean: the mark, the held file's length, nothing to be removed, the table
-- of names, and 0 as the name's place of free nodes alone.
use Rattle.std.specs.Prelude.{ℕ, ◌+◌, ◌<◌, ◌≤◌, ◌≡◌, ◌⊎◌, true, List, length, get_or}
use Rattle.definitions.specs.Nets.{Home, holds}
use Rattle.definitions.specs.State.{Engine, graph_of, net_at}
use Rattle.layout.specs.Layout.{file_length, dead, net_by_name, node_word}

-- the words ws of an engine e over a file of the bytes s
pub record Tidy (s ws : List ℕ) (e : Engine) : Type 0 where
  pub mark : get_or ws 0 0 ≡ 1
  pub file : file_length ws ≡ length s
  pub none_dead : dead ws ≡ 0
  -- the net of each net's name is that net
  pub by_name : (k : ℕ) → k < length e.nets → net_by_name ws (net_at e k).home.name ≡ k + 1
  -- a name has no net, or it is the name of its net
  pub names : (n : ℕ) → n < 1024 → (net_by_name ws n ≡ 0) ⊎ ((k : ℕ) × (k < length e.nets) × (net_by_name ws n ≡ k + 1) × ((net_at e k).home.name ≡ n))
  -- a free node's name has the place 0, and no other node's
  pub free_at : (k : ℕ) → k < length e.nets → node_word ws (net_at e k).home.free 1 ≡ 0
  pub free_only : (k n : ℕ) → holds (graph_of e) k n ≡ true → node_word ws n 1 ≡ 0 → (net_at e k).home.free ≡ n
