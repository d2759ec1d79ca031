-- Level Engine, 1: the state of a run. Slots, the dirty list, node lists, pending numbers, waits. Names are those of `engine.rs`.
use Rattle.std.specs.Prelude.{ℕ, ◌+◌, ◌-◌, Bool, List, [], map, length, get_or, set}
use Rattle.std.proofs.Math.Option.{Option}
use Rattle.net_file.specs.Lists.{sum}
use Rattle.net_file.specs.Values.{Rule}
use Rattle.definitions.specs.Nets.{Graph, Home}

-- a `Vec` of ids in the order pushed, with its capacity and the number of its stale entries
pub record Ids : Type 0 where
  pub items : List ℕ
  pub capacity : ℕ
  pub stale : ℕ

-- a node that waits, and its net
pub record Wait : Type 0 where
  pub node : ℕ
  pub net : ℕ

-- an included net; the waits on it are oldest first
pub record Net : Type 0 where
  pub home : Home
  pub list : Ids
  pub pending : ℕ
  pub awaiting : List Wait

-- N, E and W
pub record Pools : Type 0 where
  pub nodes : ℕ
  pub entries : ℕ
  pub waits : ℕ

-- the nodes, their dirty marks, and the vacant slots in the order in which they are taken
pub record Slots : Type 0 where
  pub graph : Graph
  pub marks : List Bool
  pub chain : List ℕ

-- the limit is the steps left; steps are counted since begin
pub record Engine : Type 0 where
  pub pools : Pools
  pub rules : List Rule
  pub slots : Slots
  pub dirty : Ids
  pub nets : List Net
  pub limit : Option ℕ
  pub steps : ℕ

-- its nodes, free ports and wires
abbrev pub graph_of : Engine → Graph
graph_of e = e.slots.graph

-- its nets, as level Graph sees them
abbrev pub homes : Engine → List Home
homes e = map (λ n. n.home) e.nets

-- ---- one part replaced

-- other slots
unfoldable pub with_slots : Slots → Engine → Engine
with_slots s e = record { pools = e.pools; rules = e.rules; slots = s; dirty = e.dirty; nets = e.nets; limit = e.limit; steps = e.steps }

-- another dirty list
unfoldable pub with_dirty : Ids → Engine → Engine
with_dirty d e = record { pools = e.pools; rules = e.rules; slots = e.slots; dirty = d; nets = e.nets; limit = e.limit; steps = e.steps }

-- other nets
unfoldable pub with_nets : List Net → Engine → Engine
with_nets ns e = record { pools = e.pools; rules = e.rules; slots = e.slots; dirty = e.dirty; nets = ns; limit = e.limit; steps = e.steps }

-- another limit and count
unfoldable pub with_steps : Option ℕ → ℕ → Engine → Engine
with_steps l n e = record { pools = e.pools; rules = e.rules; slots = e.slots; dirty = e.dirty; nets = e.nets; limit = l; steps = n }

-- other nodes, marks and chain as they were
unfoldable pub with_graph : Graph → Engine → Engine
with_graph g e = with_slots (record { graph = g; marks = e.slots.marks; chain = e.slots.chain }) e

-- another mark for slot n
unfoldable pub with_mark : ℕ → Bool → Engine → Engine
with_mark n b e = with_slots (record { graph = graph_of e; marks = set e.slots.marks n b; chain = e.slots.chain }) e

-- another stale count
unfoldable pub with_stale : ℕ → Ids → Ids
with_stale s l = record { items = l.items; capacity = l.capacity; stale = s }

-- another node list
unfoldable pub with_list : Ids → Net → Net
with_list l n = record { home = n.home; list = l; pending = n.pending; awaiting = n.awaiting }

-- another pending number
unfoldable pub with_pending : ℕ → Net → Net
with_pending p n = record { home = n.home; list = n.list; pending = p; awaiting = n.awaiting }

-- other waits
unfoldable pub with_awaiting : List Wait → Net → Net
with_awaiting ws n = record { home = n.home; list = n.list; pending = n.pending; awaiting = ws }

-- ---- nets

-- a new `Vec`
abbrev pub no_ids : Ids
no_ids = record { items = []; capacity = 0; stale = 0 }

-- a net with nothing in it
abbrev pub new_net : Home → Net
new_net h = record { home = h; list = no_ids; pending = 0; awaiting = [] }

-- net k
unfoldable pub net_at : Engine → ℕ → Net
net_at e k = get_or e.nets k (new_net (record { name = 0; free = 0 }))

-- net k, changed by f
unfoldable pub over_net : (Net → Net) → ℕ → Engine → Engine
over_net f k e = with_nets (set e.nets k (f (net_at e k))) e

-- net k has one more pending
unfoldable pub more : ℕ → Engine → Engine
more k e = over_net (λ n. with_pending (n.pending + 1) n) k e

-- and one less
unfoldable pub fewer : ℕ → Engine → Engine
fewer k e = over_net (λ n. with_pending (n.pending - 1) n) k e

-- ---- what the pools bound

-- entries of all node lists together
unfoldable pub entries : Engine → ℕ
entries e = sum (map (λ n. length n.list.items) e.nets)

-- all waits together
unfoldable pub waits : Engine → ℕ
waits e = sum (map (λ n. length n.awaiting) e.nets)
