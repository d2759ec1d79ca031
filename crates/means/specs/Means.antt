-- When the words mean an engine: docs/IMAGE.md says what stands where, and this is what it stands for. Part by part; each part
-- reads its own words only. Which name a place of the held file means is left open: `Named`.
use Rattle.std.specs.Prelude.{ℕ, ◌+◌, ◌*◌, ◌<◌, ◌≤◌, ◌≡◌, Bool, false, List, ◌++◌, map, length, get_or}
use Rattle.std.proofs.Math.Option.{Option, none, some}
use Rattle.net_file.specs.Lists.{bit}
use Rattle.net_file.specs.Values.{Name}
use Rattle.definitions.specs.Lists.{from}
use Rattle.definitions.specs.Nets.{Port, Graph, arity, follow}
use Rattle.definitions.specs.State.{Ids, Wait, Net, Pools, Engine, graph_of, new_net, entries, waits}
use Rattle.layout.specs.Layout
use Rattle.layout.specs.Layout.{less, node_pool, entry_pool, wait_pool, dirty_length, dirty_capacity, dirty_stale, net_word_words, node_word, across, dirty_at}
use Rattle.join_laws.specs.Ports.{Frame, frame, Real}
use Rattle.chains.specs.Seg.{Seg, All}
use Rattle.chains.specs.Pools.{View, Pool}

-- the number of a port
abbrev pub number : Port → ℕ
number p = 32 * p.node + (8 + p.index)

-- the word that says a limit
abbrev pub limit_word : Option ℕ → ℕ
limit_word none = 4294967295
limit_word (some l) = l

-- pools, limit, steps, how many nets; the words are enough, and no place wraps
pub record Header (ws : List ℕ) (p : Pools) (limit : Option ℕ) (steps nets : ℕ) : Type 0 where
  pub long : 5216 + 32 * p.nodes + 2 * p.entries + 3 * p.waits ≤ length ws
  pub nodes : node_pool ws ≡ p.nodes
  pub entries : entry_pool ws ≡ p.entries
  pub waits : wait_pool ws ≡ p.waits
  pub limit_is : Layout.limit ws ≡ limit_word limit
  pub steps_are : Layout.steps ws ≡ steps
  pub nets_are : Layout.nets ws ≡ nets
  pub few_nodes : p.nodes ≤ 4096
  pub few_entries : p.entries ≤ 16384
  pub few_waits : p.waits ≤ 4096
  pub few_nets : nets ≤ 256

-- slot n: vacant, or a node's net, name and number of ports
abbrev pub SlotIs : (ℕ → Name → Type 0) → List ℕ → ℕ → Option Frame → Type 0
SlotIs Named ws n none = node_word ws n 0 ≡ 0
SlotIs Named ws n (some f) = (node_word ws n 0 ≡ f.net + 1) × Named (node_word ws n 1) f.name × (node_word ws n 3 ≡ f.size)

-- N slots; a port's word is the number of the port across, or its own where it is a hole
pub record Nodes (Named : ℕ → Name → Type 0) (ws : List ℕ) (N : ℕ) (g : Graph) : Type 0 where
  pub slot : (n : ℕ) → n < N → SlotIs Named ws n (frame g n)
  pub port : (p : Port) → Real g p → across ws (number p) ≡ number (follow g p)
  pub few : (n : ℕ) → arity g n ≤ 16
  pub inside : (n : ℕ) → N ≤ n → frame g n ≡ none

-- each slot's dirty mark
pub record Marks (ws : List ℕ) (N : ℕ) (marks : List Bool) : Type 0 where
  pub sized : length marks ≡ N
  pub mark : (n : ℕ) → n < N → node_word ws n 2 ≡ bit (get_or marks n false)

-- the vacant slots: those that were freed, as a chain, then those never taken
pub record Vacant (ws : List ℕ) (N : ℕ) (chain : List ℕ) : Type 0 where
  pub freed : List ℕ
  pub never : ℕ
  pub is : chain ≡ freed ++ from (get_or ws 9 0) never
  pub all : get_or ws 9 0 + never ≡ N
  pub seg : Seg (λ c. node_word ws (less c) 4) (get_or ws 8 0) (map (λ n. n + 1) freed) 0
  pub inside : All (λ n. n < N) freed

-- the dirty list, of at most 4N + 4 entries
pub record Dirty (ws : List ℕ) (N : ℕ) (l : Ids) : Type 0 where
  pub room : length l.items ≤ 4 * N + 4
  pub length_is : dirty_length ws ≡ length l.items
  pub capacity_is : dirty_capacity ws ≡ l.capacity
  pub stale_is : dirty_stale ws ≡ l.stale
  pub item : (k : ℕ) → k < length l.items → get_or ws (dirty_at k) 0 ≡ get_or l.items k 0

-- net k, without its lists
pub record NetIs (ws : List ℕ) (k : ℕ) (t : Net) : Type 0 where
  pub name : net_word_words ws (k + 1) 0 ≡ t.home.name
  pub free : net_word_words ws (k + 1) 1 ≡ t.home.free
  pub length_is : net_word_words ws (k + 1) 4 ≡ length t.list.items
  pub capacity_is : net_word_words ws (k + 1) 5 ≡ t.list.capacity
  pub stale_is : net_word_words ws (k + 1) 6 ≡ t.list.stale
  pub pending_is : net_word_words ws (k + 1) 7 ≡ t.pending

-- what a number that no net has reads as
abbrev pub no_net : Net
no_net = new_net (record { name = 0; free = 0 })

-- all nets
abbrev pub Nets : List ℕ → List Net → Type 0
Nets ws ts = (k : ℕ) → k < length ts → NetIs ws k (get_or ts k no_net)

-- the node lists' entries
abbrev pub entries_in : List ℕ → ℕ → View ℕ
entries_in ws N = record {
  used = get_or ws 11 0;
  first = get_or ws 10 0;
  head = λ k. net_word_words ws (k + 1) 2;
  tail = λ k. net_word_words ws (k + 1) 3;
  node = λ c. get_or ws (5214 + 32 * N + 2 * c + 0) 0;
  after = λ c. get_or ws (5214 + 32 * N + 2 * c + 1) 0;
}

-- the waits: node, and its net and one more
abbrev pub waits_in : List ℕ → ℕ → ℕ → View (ℕ × ℕ)
waits_in ws N E = record {
  used = get_or ws 13 0;
  first = get_or ws 12 0;
  head = λ k. net_word_words ws (k + 1) 8;
  tail = λ k. net_word_words ws (k + 1) 9;
  node = λ c. (get_or ws (5213 + 32 * N + 2 * E + 3 * c + 0) 0, get_or ws (5213 + 32 * N + 2 * E + 3 * c + 1) 0);
  after = λ c. get_or ws (5213 + 32 * N + 2 * E + 3 * c + 2) 0;
}

-- the node list of net k
abbrev pub items_of : List Net → ℕ → List ℕ
items_of ts k = (get_or ts k no_net).list.items

-- the waits on net k, in words
abbrev pub awaiting_of : List Net → ℕ → List (ℕ × ℕ)
awaiting_of ts k = map (λ w. (w.node, w.net + 1)) (get_or ts k no_net).awaiting

-- no more entries and waits in use than there are
pub record Used (ws : List ℕ) (p : Pools) : Type 0 where
  pub entries : get_or ws 11 0 ≤ p.entries
  pub waits : get_or ws 13 0 ≤ p.waits

-- all of it
pub record Means (Named : ℕ → Name → Type 0) (ws : List ℕ) (e : Engine) : Type 0 where
  pub header : Header ws e.pools e.limit e.steps (length e.nets)
  pub used : Used ws e.pools
  pub nodes : Nodes Named ws e.pools.nodes (graph_of e)
  pub marks : Marks ws e.pools.nodes e.slots.marks
  pub vacant : Vacant ws e.pools.nodes e.slots.chain
  pub dirty : Dirty ws e.pools.nodes e.dirty
  pub nets : Nets ws e.nets
  pub lists : Pool (entries_in ws e.pools.nodes) (length e.nets) (items_of e.nets) (entries e)
  pub waits_are : Pool (waits_in ws e.pools.nodes e.pools.entries) (length e.nets) (awaiting_of e.nets) (waits e)
