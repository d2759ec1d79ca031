-- What the round trips ask can be met: a flat file and a tree file, each with a rule, a node and wires.
use Rattle.std.proofs.Common.{arith}
use Rattle.std.specs.Prelude.{◌≡◌, true, [], ◌∷◌}
use Rattle.std.proofs.Math.Option.{some}
use Rattle.net_file.specs.Lists.{ok}
use Rattle.net_file.specs.Values.{Name, graft, FlatNet, wire, node, none, more, TreeNet, File}
use Rattle.net_file.specs.Write
use Rattle.net_file.specs.Checks
use Rattle.net_file.specs.Checks.{flat, tree, read, write}
use Rattle.net_file_laws.specs.Parts.{NameFits, PathFits}
use Rattle.net_file_laws.specs.Flat.{FlatNetFits}
use Rattle.net_file_laws.specs.Trees.{TreeFits, TreeNetFits}
use Rattle.net_file_laws.specs.Body.{TablesFit}
use Rattle.net_file_laws.specs.RoundTrip.{FileFits}

abbrev plain : Name
plain = record { path = 0; payload = 7; children = [] }

-- both free ports on one wire, and a node with its own two on another
abbrev pub flat_file : File FlatNet
flat_file = record {
  limit = some 5;
  paths = (97 ∷ []) ∷ [];
  names = plain ∷ [];
  rules = graft 0 true ∷ [];
  nets = record { name = 0; included = true; wires = 2; free = 0 ∷ 0 ∷ []; pairs = []; nodes = record { name = plain; pri = 1; aux = 1 ∷ [] } ∷ [] } ∷ [];
}

-- a free port on a node, linked to a node
abbrev pub tree_file : File TreeNet
tree_file = record {
  limit = some 5;
  paths = (97 ∷ []) ∷ [];
  names = plain ∷ [];
  rules = graft 0 true ∷ [];
  nets = record { name = 0; included = true; wires = 1; free = node plain (more (wire 0) none) ∷ []; links = (wire 0, node plain none) ∷ [] } ∷ [];
}

plain_fits : NameFits 1 1 plain
plain_fits = record { path = omega arith; payload = omega arith; few = omega arith; children = tt }

path_fits : PathFits (97 ∷ [])
path_fits = record { some = omega arith; few = omega arith; bytes = ((omega arith, omega arith), tt) }

flat_tables : TablesFit flat FlatNetFits flat_file
flat_tables = record {
  few_paths = omega arith;
  paths = (path_fits, tt);
  few_others = omega arith;
  few_names = omega arith;
  names = (record { path = omega arith; payload = omega arith; few = omega arith; children = tt }, tt);
  few_rules = omega arith;
  rules = (omega arith, tt);
  few_nets = omega arith;
  nets = (
    record {
      name = omega arith;
      wires = omega arith;
      few_free = omega arith;
      free = (omega arith, (omega arith, tt));
      few_pairs = omega arith;
      pairs = tt;
      few_nodes = omega arith;
      nodes = (record { name = plain_fits; pri = omega arith; few = omega arith; aux = (omega arith, tt) }, tt);
    },
    tt,
  );
  few_nodes = omega arith;
}

pub flat_fits : FileFits flat FlatNetFits flat_file
unfolding Write.write_body Write.counted Write.be Write.write_path Write.write_name Write.write_rule Write.write_flat_net Write.write_head Write.write_node Write.write_pair Write.limit_number
flat_fits = record { limit = omega arith; tables = flat_tables; size = omega arith }

tree_tables : TablesFit tree TreeNetFits tree_file
unfolding Checks.trees_of Checks.nodes_of TreeFits
tree_tables = record {
  few_paths = omega arith;
  paths = (path_fits, tt);
  few_others = omega arith;
  few_names = omega arith;
  names = (record { path = omega arith; payload = omega arith; few = omega arith; children = tt }, tt);
  few_rules = omega arith;
  rules = (omega arith, tt);
  few_nets = omega arith;
  nets = (
    record {
      name = omega arith;
      wires = omega arith;
      few_free = omega arith;
      free = ((plain_fits, omega arith, (omega arith, tt)), tt);
      few_links = omega arith;
      links = ((omega arith, (plain_fits, omega arith, tt)), tt);
    },
    tt,
  );
  few_nodes = omega arith;
}

pub tree_fits : FileFits tree TreeNetFits tree_file
unfolding Write.write_body Write.counted Write.be Write.write_path Write.write_name Write.write_rule Write.write_tree_net Write.write_head Write.write_tree Write.write_link Write.limit_number
tree_fits = record { limit = omega arith; tables = tree_tables; size = omega arith }
