-- The parts of a line as they are written, by what stands at each place of the file.
use Rattle.std.specs.Prelude.{ℕ, ◌+◌, ◌*◌, List, [], ◌∷◌, ◌++◌, map, get_or}
use Rattle.net_file.specs.Lists.{concat_map}
use Rattle.net_file.specs.Read.{limit_of}
use Rattle.fields.specs.Fields.{be16, be32, be64}
use Rattle.definitions.specs.Text.{text, decimal, line}
use Rattle.definitions.specs.Listing.{node_line, net_lines, limit_field}
use Rattle.stored.specs.Stored.{table_at, numbers_at, list_at, bytes_at, name_end, nodes_at, flat_net_at, flat_net_end}
use Rattle.stored.specs.Body.{paths_at}

-- each field with a space before it
unfoldable pub spaced : List (List ℕ) → List ℕ
spaced ws = concat_map (λ w. 32 ∷ w) ws

module _ (s : List ℕ) where
  -- k numbers of a list, from the j-th on
  unfoldable pub numbers_text : ℕ → ℕ → ℕ → List ℕ
  numbers_text at j k = spaced (map decimal (numbers_at s (at + (1 + 2 * j)) k))

  -- k bytes of a path, from the j-th on
  unfoldable pub path_text : ℕ → ℕ → ℕ → List ℕ
  path_text at j k = bytes_at s (at + (1 + j)) k

  -- path and payload
  unfoldable pub name_text : ℕ → List ℕ
  name_text at = get_or (paths_at s) (be16 s at) [] ++ 32 ∷ decimal (be64 s (at + 2))

  unfoldable pub children_text : ℕ → List ℕ
  children_text at = text " children" ++ spaced (map decimal (list_at s (at + 10)))

  unfoldable pub principal_text : ℕ → List ℕ
  principal_text at = text " ports" ++ 32 ∷ decimal (be16 s (name_end s at))

  -- principal first
  unfoldable pub ports_text : ℕ → List ℕ
  ports_text at = principal_text at ++ (spaced (map decimal (list_at s (name_end s at + 2))) ++ 10 ∷ [])

  -- name number and wire counter
  unfoldable pub net_text : ℕ → List ℕ
  net_text at = text "net" ++ ((32 ∷ decimal (be16 s at)) ++ (text " wires" ++ 32 ∷ decimal (be32 s (at + 3))))

  unfoldable pub free_text : ℕ → List ℕ
  free_text at = text " free" ++ (spaced (map decimal (list_at s (at + 7))) ++ 10 ∷ [])

  -- a line for each of n nodes
  unfoldable pub nodes_text : ℕ → ℕ → List ℕ
  nodes_text at n = concat_map (node_line (paths_at s)) (nodes_at s at n)

  -- n nets
  unfoldable pub nets_text : ℕ → ℕ → List ℕ
  nets_text at n = concat_map (net_lines (paths_at s)) (table_at (flat_net_at s) (flat_net_end s) at n)

  unfoldable pub limit_text : List ℕ
  limit_text = line (text "limit" ∷ limit_field (limit_of (be32 s 5)) ∷ [])
