-- The nets of a tree file.
use Rattle.net_file.specs.Values.{TreeNet}
use Rattle.net_file.specs.Read.{read_tree_net}
use Rattle.net_file.specs.Checks.{tree}
use Rattle.stored_tree.specs.Tree.{tree_net_at, tree_net_end}
use Rattle.stored_tree.specs.Parts.{stands_tree_net}
use Rattle.scan_tree.specs.Count.{nets_nodes}
use Rattle.scan_tree_laws.specs.Net.{nets_nodes_lem}
use Rattle.body.specs.Nets.{NetsOf}

abbrev pub tree_nets : NetsOf TreeNet
tree_nets = record {
  read_net = read_tree_net;
  nodes = tree.nodes;
  net_at = tree_net_at;
  net_end = tree_net_end;
  nets_nodes = nets_nodes;
  stands = stands_tree_net;
  nets_nodes_lem = nets_nodes_lem;
}
