-- The nets of a flat file.
use Rattle.net_file.specs.Values.{FlatNet}
use Rattle.net_file.specs.Read.{read_flat_net}
use Rattle.net_file.specs.Checks.{flat}
use Rattle.stored.specs.Stored.{flat_net_at, flat_net_end}
use Rattle.stored.specs.Parts.{stands_net}
use Rattle.count_flat.specs.Count.{nets_nodes}
use Rattle.count_flat.specs.Laws.{nets_nodes_lem}
use Rattle.body.specs.Nets.{NetsOf}

abbrev pub flat_nets : NetsOf FlatNet
flat_nets = record {
  read_net = read_flat_net;
  nodes = flat.nodes;
  net_at = flat_net_at;
  net_end = flat_net_end;
  nets_nodes = nets_nodes;
  stands = stands_net;
  nets_nodes_lem = nets_nodes_lem;
}
