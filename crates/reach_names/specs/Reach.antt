-- What is reached, as the code finds it: marks by name number, and the names in the order in which they were met. What it means is in
-- `reach_laws`.
use Rattle.std.specs.Prelude.{ℕ, zero, suc, ◌+◌, Bool, true, false, List, [], ◌∷◌, ◌++◌, length, get_or, set, replicate}
use Rattle.words.specs.Choose.{pick, if_lt, if_eq}
use Rattle.fields.specs.Fields.{be16}
use Rattle.stored.specs.Stored.{list_at, node_end, node_count_at, name_count_at, net_count_at}
use Rattle.ends.specs.Ends.{within, on}
use Rattle.name_table.specs.Table.{name_places, net_places, sorted_part, number_part, find}

-- the names that were met: a mark for each, and the first count of order
pub record Met : Type 0 where
  pub marks : List Bool
  pub order : List ℕ
  pub count : ℕ

-- one name, if it is not marked yet
unfoldable pub mark : Met → ℕ → Met
mark t i =
    let n = t.count in
    if_lt i (length t.marks) (if_lt n (length t.order) (pick (get_or t.marks i false) t
    (record { marks = set t.marks i true; order = set t.order n i; count = n + 1 })) t) t

unfoldable pub mark_all : Met → List ℕ → Met
mark_all t [] = t
mark_all t (i ∷ is) = mark_all (mark t i) is

module _ (found : ℕ → ℕ) (s : List ℕ) where
  -- what the node at a place leads to: its name where that is found in the table, else its name's children
  unfoldable pub from_node_words : ℕ → List ℕ
  from_node_words at = if_lt (found at) 1024 (found at ∷ []) (list_at s (within s (at + 10)))

  -- k nodes
  unfoldable pub from_nodes : ℕ → ℕ → List ℕ
  from_nodes at zero = []
  from_nodes at (suc k) = from_node_words at ++ from_nodes (within s (node_end s at)) k

  -- the nodes of the net at a place; 0 is none
  unfoldable pub from_net : ℕ → List ℕ
  from_net a = let q = within s (node_count_at s a) in if_eq a 0 [] (from_nodes (on s q 2) (be16 s q))

  -- one step on from the name with the number i
  unfoldable pub onward : List ℕ → List ℕ → ℕ → List ℕ
  onward names nets i = list_at s (on s (get_or names i 0) 10) ++ from_net (get_or nets i 0)

-- each name from the h-th met on, at most k
unfoldable pub close : (ℕ → List ℕ) → Met → ℕ → ℕ → Met
close next t h zero = t
close next t h (suc k) = if_lt h t.count (close next (mark_all t (next (get_or t.order h 0))) (h + 1) k) t

unfoldable pub from_entries : (ℕ → List ℕ) → List ℕ → List Bool → List Bool
from_entries next entries marks =
    (close next (mark_all (record { marks = marks; order = replicate 1024 0; count = 0 }) entries) 0 1024).marks

unfoldable pub with_names : List ℕ → List ℕ → List ℕ → List Bool → List Bool
with_names s nets entries marks =
    let q = within s (name_count_at s) in
    let n = be16 s q in
    let names = name_places s (replicate 1024 0) (on s q 2) 0 n in
    let sorted = sorted_part s names (replicate 1024 0) (replicate 1024 0) n in
    let numbers = number_part s names (replicate 1024 0) (replicate 1024 0) n in
    from_entries (onward (find s sorted numbers n) s names nets) entries marks

unfoldable pub reached : List ℕ → List ℕ → List Bool → List Bool
reached s entries marks =
    let q = within s (net_count_at s) in
    with_names s (net_places s (replicate 1024 0) (on s q 2) (be16 s q)) entries marks
