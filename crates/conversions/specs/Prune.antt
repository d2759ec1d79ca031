-- Pruning keeps exactly what is reached from the entries through name children, nodes whose name is in the table, and else those
-- nodes' children. Without entries nothing is removed.
use Rattle.std.specs.Prelude.{ℕ, zero, suc, Bool, true, false, ◌||◌, ◌≡◌, List, [], ◌∷◌, ◌++◌, length, get_or, eqb}
use Rattle.std.proofs.Math.Option.{Option, none, some}
use Rattle.net_file.specs.Lists.{any, concat_map}
use Rattle.net_file.specs.Values.{Name, FlatNode, FlatNet, File}
use Rattle.net_file.specs.Checks.{same_name}

-- the number of a name in the table (`has_name`)
unfoldable pub number_of : List Name → Name → ℕ → Option ℕ
number_of [] m i = none
number_of (n ∷ ns) m i = elim (same_name n m) [ true ↦ some i | false ↦ number_of ns m (suc i) ]

-- the children of the name with a number
unfoldable pub children_of : List Name → ℕ → List ℕ
children_of [] i = []
children_of (n ∷ ns) zero = n.children
children_of (n ∷ ns) (suc i) = children_of ns i

-- what a node leads to
unfoldable pub from_node : List Name → FlatNode → List ℕ
from_node names n = elim (number_of names n.name 0) [ none ↦ n.name.children | some i ↦ i ∷ [] ]

-- what the nodes of the net with this name lead to
unfoldable pub from_nets : List Name → List FlatNet → ℕ → List ℕ
from_nets names [] i = []
from_nets names (n ∷ ns) i = elim (eqb n.name i) [ true ↦ concat_map (from_node names) n.nodes | false ↦ from_nets names ns i ]

-- one step on from a name
unfoldable pub next : File FlatNet → ℕ → List ℕ
next f i = children_of f.names i ++ from_nets f.names f.nets i

-- ---- reached, as a relation: this is what pruning means

pub data Reached (f : File FlatNet) (entries : List ℕ) : ℕ → Type 0 where
  entry : {i : ℕ} → any (eqb i) entries ≡ true → Reached f entries i
  onward : {i j : ℕ} → Reached f entries i → any (eqb j) (next f i) ≡ true → Reached f entries j

-- ---- and as a function: as many rounds as there are names reach all

-- those of a list that were not seen yet, put to those that were
unfoldable pub join : List ℕ → List ℕ → List ℕ
join seen [] = seen
join seen (i ∷ is) = elim (any (eqb i) seen) [ true ↦ join seen is | false ↦ join (seen ++ (i ∷ [])) is ]

unfoldable pub reach : ℕ → File FlatNet → List ℕ → List ℕ
reach zero f seen = seen
reach (suc n) f seen = reach n f (join seen (concat_map (next f) seen))

unfoldable pub keep_nets : List ℕ → List FlatNet → List FlatNet
keep_nets seen [] = []
keep_nets seen (n ∷ ns) = let r = keep_nets seen ns in elim (any (eqb n.name) seen) [ true ↦ n ∷ r | false ↦ r ]

unfoldable pub prune : File FlatNet → List ℕ → File FlatNet
prune f [] = f
prune f (i ∷ is) =
    let seen = reach (length f.names) f (join [] (i ∷ is)) in
    record { limit = f.limit; paths = f.paths; names = f.names; rules = f.rules; nets = keep_nets seen f.nets }
