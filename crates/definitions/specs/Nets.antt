-- Level Graph, 1: nodes, free ports and wires. No marks, lists or visits: "Node, net, port, wire, name and path numbers are
-- separate things". A net's free ports are the ports of its free node from 2 on; ports 0 and 1 of that node are wired together.
use Rattle.std.specs.Prelude.{ℕ, Bool, true, false, ◌&&◌, List, [], map, length, get_or, drop, eqb}
use Rattle.std.proofs.Math.Option.{Option, none, some}
use Rattle.net_file.specs.Values.{Name}
use Rattle.definitions.specs.Lists.{or_else, is_some, up_to}

-- a port of a node; index 0 is the principal port
pub record Port : Type 0 where
  pub node : ℕ
  pub index : ℕ

-- a node: its net, its name, and for each port the port across. A port with none across is a hole: a rewrite is going on
pub record Node : Type 0 where
  pub net : ℕ
  pub name : Name
  pub ports : List (Option Port)

-- the nodes of all nets by number; none where no node has the number
abbrev pub Graph : Type 0
Graph = List (Option Node)

-- an included net: its name number and its free node
pub record Home : Type 0 where
  pub name : ℕ
  pub free : ℕ

-- port i of node n
abbrev pub port : ℕ → ℕ → Port
port n i = record { node = n; index = i }

-- one port, not two
unfoldable pub same_port : Port → Port → Bool
same_port p q = eqb p.node q.node && eqb p.index q.index

-- index 0
unfoldable pub is_principal : Port → Bool
is_principal p = eqb p.index 0

-- what a number that no node has reads as: a node of no ports
abbrev pub nowhere : Node
nowhere = record { net = 0; name = record { path = 0; payload = 0; children = [] }; ports = [] }

-- the node with number n
unfoldable pub at : Graph → ℕ → Node
at g n = or_else (get_or g n none) nowhere

-- a node has the number
unfoldable pub filled : Graph → ℕ → Bool
filled g n = is_some (get_or g n none)

-- a node of net k has the number
unfoldable pub holds : Graph → ℕ → ℕ → Bool
holds g k n = elim (get_or g n none) [ none ↦ false | some x ↦ eqb x.net k ]

-- node n's name
unfoldable pub name_of : Graph → ℕ → Name
name_of g n = (at g n).name

-- how many ports it has
unfoldable pub arity : Graph → ℕ → ℕ
arity g n = length (at g n).ports

-- a node's ports, the principal one first
unfoldable pub ports : Graph → ℕ → List Port
ports g n = map (port n) (up_to (arity g n))

-- all but the principal one
unfoldable pub aux : Graph → ℕ → List Port
aux g n = drop 1 (ports g n)

-- the port across; none at a hole
unfoldable pub across : Graph → Port → Option Port
across g p = get_or (at g p.node).ports p.index none

-- the port across; at a hole, the port itself
unfoldable pub follow : Graph → Port → Port
follow g p = or_else (across g p) p
