-- What a load asks of a net: it stands at a place of the file, a table of m words has its wires, and the checks accept it.
use Rattle.std.specs.Prelude.{ℕ, ◌+◌, ◌<◌, ◌≤◌, ◌≡◌, List, length}
use Rattle.fields.specs.Fields.{byte, be16, be32}
use Rattle.stored.specs.Stored.{pair_count_at, node_count_at}
use Rattle.net_file.specs.Values.{Name, FlatNet}
use Rattle.load_laws.specs.Loaded.{NetFine}
use Rattle.wire_ends_means.specs.Wires.{Numbers, Fit}
use Rattle.wire_ends_means.specs.Pairs.{PairNumbers, PairsFit}
use Rattle.load_nodes_means.specs.Nodes.{NodesIn}

pub record NetIn (Named : ℕ → Name → Type 0) (m : ℕ) (file : List ℕ) (at : ℕ) (t : FlatNet) : Type 0 where
  pub fine : NetFine t
  pub name : t.name ≡ be16 file at
  pub low : t.name < 1024
  pub counter : t.wires ≡ be32 file (at + 3)
  pub free_count : length t.free ≡ byte file (at + 7)
  pub free : Numbers file (at + 8) t.free
  pub free_inside : at + 8 ≤ length file
  pub free_most : length t.free ≤ 14
  pub free_fits : Fit t.pairs m t.free
  pub pair_count : length t.pairs ≡ be16 file (pair_count_at file at)
  pub pairs : PairNumbers file (pair_count_at file at + 2) t.pairs
  pub pairs_inside : pair_count_at file at + 2 ≤ length file
  pub pairs_fit : PairsFit m t.pairs
  pub node_count : length t.nodes ≡ be16 file (node_count_at file at)
  pub nodes : NodesIn Named t.pairs m file (node_count_at file at + 2) t.nodes
  pub nodes_inside : node_count_at file at + 2 ≤ length file
