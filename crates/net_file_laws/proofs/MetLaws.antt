-- What the round trips ask can be met: a flat file and a tree file, each with a rule, a node and wires.
use Rattle.std.proofs.Common.{arith}
use Rattle.std.specs.Prelude.{◌≡◌, true, [], ◌∷◌}
use Rattle.std.proofs.Math.Option.{some}
use Rattle.net_file.specs.Lists.{ok}
use Rattle.net_file.specs.Values.{Name, graft, FlatNet, wire, node, none, more, TreeNet, File}
use Rattle.net_file.specs.Write
use Rattle.net_file.specs.Checks
use Rattle.net_file.specs.Checks.{flat, tree, read, write}
use Rattle.net_file_laws.specs.Parts.{NameFits, PathFits}
use Rattle.net_file_laws.specs.Flat.{FlatNetFits}
use Rattle.net_file_laws.specs.Trees.{TreeFits, TreeNetFits}
use Rattle.net_file_laws.specs.Body.{TablesFit}
use Rattle.net_file_laws.specs.RoundTrip.{FileFits}
use Rattle.net_file_laws.proofs.RoundTrip.{flat_read_write, tree_read_write}
use Rattle.net_file_laws.specs.Met.{flat_file, tree_file, flat_fits, tree_fits}

pub flat_met : read flat (write flat flat_file) ≡ ok flat_file
unfolding Checks.ordered Checks.wired Checks.free_named Checks.same_name Checks.pairs_ordered Checks.pair_wires Checks.flat_wired Checks.places Checks.occurs Checks.wire_wired Checks.pair_wired Checks.names_free Checks.rule_paths
flat_met = flat_read_write flat_file flat_fits tt tt tt

pub tree_met : read tree (write tree tree_file) ≡ ok tree_file
unfolding Checks.ordered Checks.wired Checks.free_named Checks.same_name Checks.tree_wired Checks.trees_of Checks.wires_of Checks.occurs Checks.names_free Checks.rule_paths
tree_met = tree_read_write tree_file tree_fits tt tt tt
