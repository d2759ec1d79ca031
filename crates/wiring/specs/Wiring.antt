-- How check 7 goes over a flat net, by offsets. What it means is in `wiring_laws`.
use Rattle.std.specs.Prelude.{ℕ, zero, suc, ◌+◌, ◌*◌, Bool, ◌&&◌, List, [], ◌++◌, length, get_or, eqb}
use Rattle.words.specs.Choose.{if_lt}
use Rattle.net_file.specs.Lists.{all}
use Rattle.fields.specs.Fields.{byte, be16}
use Rattle.stored.specs.Stored.{name_end, node_end, pairs_at, pair_count_at, node_count_at}
use Rattle.ends.specs.Ends.{within, on}
use Rattle.ends.specs.Runs.{run}
use Rattle.tally.specs.Tally.{tally}

-- w was seen twice since the base
unfoldable pub twice : List ℕ → ℕ → ℕ → Bool
twice counts base w = eqb (get_or counts w 0) (base + 2)

-- the two wires of a pair were seen alike
unfoldable pub alike : List ℕ → ℕ × ℕ → Bool
alike counts p = eqb (get_or counts p.0 0) (get_or counts p.1 0)

module _ (s : List ℕ) where
  -- n pairs, where all are there
  unfoldable pub pair_run : ℕ → ℕ → List (ℕ × ℕ)
  pair_run from n = if_lt (length s) (from + 4 * n) [] (pairs_at s from n)

  unfoldable pub node_wires : ℕ → List ℕ
  node_wires at = let e = within s (name_end s at) in run s e 1 ++ run s (on s e 3) (byte s (on s e 2))

  unfoldable pub nodes_wires : ℕ → ℕ → List ℕ
  nodes_wires at zero = []
  nodes_wires at (suc k) = node_wires at ++ nodes_wires (within s (node_end s at)) k

  -- the parts of a net
  unfoldable pub free_wires : ℕ → List ℕ
  free_wires at = run s (on s at 8) (byte s (on s at 7))

  unfoldable pub paired_wires : ℕ → List ℕ
  paired_wires at = let p = within s (pair_count_at s at) in run s (on s p 2) (2 * be16 s p)

  unfoldable pub net_pairs : ℕ → List (ℕ × ℕ)
  net_pairs at = let p = within s (pair_count_at s at) in pair_run (on s p 2) (be16 s p)

  unfoldable pub net_nodes : ℕ → List ℕ
  net_nodes at = let q = within s (node_count_at s at) in nodes_wires (on s q 2) (be16 s q)

-- a net's wires, all tallied
unfoldable pub net_tallied : List ℕ → ℕ → List ℕ → ℕ → List ℕ
net_tallied counts base s at = tally (tally (tally counts base (free_wires s at)) base (paired_wires s at)) base (net_nodes s at)

-- whether its wires were seen as they should
unfoldable pub net_wired : List ℕ → ℕ → List ℕ → ℕ → Bool
net_wired counts base s at = all (alike counts) (net_pairs s at) && all (twice counts base) (free_wires s at) && all (twice counts base) (net_nodes s at)
