-- What program `netlist` prints. Document 01, "Checked examples".
use Rattle.std.specs.Prelude.{ℕ, true, false, List, [], ◌∷◌, ◌++◌, map, length, get_or, leb}
use Rattle.std.proofs.Math.Option.{Option, none, some}
use Rattle.net_file.specs.Lists.{Result, ok, refuse, concat_map}
use Rattle.net_file.specs.Values.{FlatNode, FlatNet, File}
use Rattle.net_file.specs.Checks.{flat, read}
use Rattle.definitions.specs.Lists.{◌>>=◌}
use Rattle.definitions.specs.State.{Pools}
use Rattle.definitions.specs.Calls.{optimized}
use Rattle.definitions.specs.Text.{text, decimal, line}

-- path, payload, children, ports
unfoldable pub node_line : List (List ℕ) → FlatNode → List ℕ
node_line paths n = line
    (get_or paths n.name.path [] ∷ decimal n.name.payload ∷ text "children" ∷ map decimal n.name.children
    ++ text "ports" ∷ map decimal (n.pri ∷ n.aux))

-- a net's line, and one for each of its nodes
unfoldable pub net_lines : List (List ℕ) → FlatNet → List ℕ
net_lines paths t =
    line (text "net" ∷ decimal t.name ∷ text "wires" ∷ decimal t.wires ∷ text "free" ∷ map decimal t.free)
    ++ concat_map (node_line paths) t.nodes

-- "the steps left or `none`"
unfoldable pub limit_field : Option ℕ → List ℕ
limit_field none = text "none"
limit_field (some n) = decimal n

-- the whole text
unfoldable pub listing : File FlatNet → List ℕ
listing f = line (text "limit" ∷ limit_field f.limit ∷ []) ++ concat_map (net_lines f.paths) f.nets

-- "On refusal only `refused` and the number"
unfoldable pub printed : Result (File FlatNet) → List ℕ
printed (ok f) = listing f
printed (refuse r) = line (text "refused" ∷ decimal r ∷ [])

-- a file's bytes, optimised in these pools and printed
unfoldable pub listed : Pools → List ℕ → List ℕ
listed p bs = printed (read flat bs >>= optimized p)

-- "Its own pools: N 256, E 1,024, W 64"
abbrev pub netlist_pools : Pools
netlist_pools = record { nodes = 256; entries = 1024; waits = 64 }

-- "files to 8,192 bytes; a longer one prints `refused 2`"
unfoldable pub netlist : List ℕ → List ℕ
netlist bs = elim (leb (length bs) 8192) [ true ↦ listed netlist_pools bs | false ↦ printed (refuse 2) ]
