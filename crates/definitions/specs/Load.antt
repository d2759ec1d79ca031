-- Level Engine, 3: the included nets are loaded. Document 01: "Each net first gets a free node with 2 more ports than its free
-- ports, ports 0 and 1 wired together, then its nodes. All start dirty".
use Rattle.std.specs.Prelude.{ℕ, ◌+◌, Bool, true, false, ◌||◌, List, [], ◌∷◌, ◌++◌, map, length, replicate, eqb}
use Rattle.std.proofs.Math.Option.{Option, none, some}
use Rattle.net_file.specs.Lists.{Result, any, eqs}
use Rattle.net_file.specs.Values.{Name, FlatNode, FlatNet, File, free_path}
use Rattle.definitions.specs.Lists.{keep, find, place, each, zip_with, from, up_to}
use Rattle.definitions.specs.Nets.{Port, port}
use Rattle.definitions.specs.Scripts.{Edit, Insert, Join}
use Rattle.definitions.specs.Rules.{new}
use Rattle.definitions.specs.State.{Pools, Engine, with_nets, no_ids, new_net}
use Rattle.definitions.specs.Books.{fresh, edit}

-- "If .. the path is absent, `ivy:engine:free` joins the path table last"
unfoldable pub with_free_path : List (List ℕ) → List (List ℕ)
with_free_path ps = elim (any (eqs free_path) ps) [ true ↦ ps | false ↦ ps ++ free_path ∷ [] ]

-- the name of every free node
unfoldable pub free_name : List (List ℕ) → Name
free_name ps = record { path = place (eqs free_path) (with_free_path ps); payload = 0; children = [] }

-- of a pair the smaller wire stands for both
unfoldable pub canonical : List (ℕ × ℕ) → ℕ → ℕ
canonical ps w = elim (find (λ p. eqb w p.1) ps) [ none ↦ w | some p ↦ p.0 ]

-- a wire and a port that the file puts there
abbrev pub End : Type 0
End = ℕ × Port

-- the wires at the ports of node n from port i on
unfoldable pub ends_at : FlatNet → ℕ → ℕ → List ℕ → List End
ends_at t n i ws = zip_with (λ j w. (canonical t.pairs w, port n j)) (from i (length ws)) ws

-- a wire's second port is joined with its first; `met` are the ends so far
unfoldable pub join_met : List End → List End → List Edit
join_met met [] = []
join_met met (x ∷ xs) = elim (find (λ y. eqb x.0 y.0) met) [
  | none ↦ join_met (x ∷ met) xs
  | some y ↦ Join x.1 y.1 ∷ join_met (x ∷ met) xs
]

-- the nodes of net k from the j-th new one on
unfoldable pub load_nodes : (ℕ → ℕ) → FlatNet → ℕ → List End → ℕ → List FlatNode → List Edit
load_nodes fresh' t k met j [] = []
load_nodes fresh' t k met j (x ∷ xs) =
    let ends = ends_at t (fresh' j) 0 (x.pri ∷ x.aux) in
    Insert (fresh' j) (new k x.name (length ends)) ∷ join_met met ends ++ load_nodes fresh' t k (ends ++ met) (1 + j) xs

-- the free node, its own wire, the free wires, the nodes
unfoldable pub load_net : (ℕ → ℕ) → Name → ℕ → FlatNet → List Edit
load_net fresh' free k t =
    let f = fresh' 0 in
    let ends = ends_at t f 2 t.free in
    Insert f (new k free (2 + length t.free)) ∷ Join (port f 0) (port f 1) ∷ join_met [] ends ++ load_nodes fresh' t k ends 1 t.nodes

-- one net more, loaded
unfoldable pub add_flat_net : Name → FlatNet → Engine → Result Engine
add_flat_net free t e =
    each edit (load_net (fresh e) free (length e.nets) t)
    (with_nets (e.nets ++ new_net (record { name = t.name; free = fresh e 0 }) ∷ []) e)

-- N slots, all vacant; "the slab reuses the last freed slot first, else takes the next new one"
unfoldable pub empty : Pools → File FlatNet → Engine
empty p f = record {
  pools = p;
  rules = f.rules;
  slots = record { graph = replicate p.nodes none; marks = replicate p.nodes false; chain = up_to p.nodes };
  dirty = no_ids;
  nets = [];
  limit = f.limit;
  steps = 0;
}

-- those that are marked
unfoldable pub included : File FlatNet → List FlatNet
included f = keep (λ t. t.included) f.nets

-- "Included nets load in ascending name number", as the file has them
unfoldable pub load : Pools → File FlatNet → Result Engine
load p f = each (add_flat_net (free_name f.paths)) (included f) (empty p f)
