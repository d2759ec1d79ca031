use Rattle.scan_tree.specs.Count.{net_end_past, net_end_is}
use Rattle.wiring_tree.specs.Wiring.{net_past, net_tallied_lem}
use Rattle.wiring_tree.proofs.tally_net.Goals as goal

pub returns-then-s-at : goal.returns-then-s-at
returns-then-s-at c = (search net_past, search net_end_past)

pub returns : goal.returns
returns c = (search net_tallied_lem, search net_end_is)
