use Rattle.std.proofs.Common.{sym, ◌∙◌}
use Rattle.wiring_nets.specs.Nets.{next_there}
use Rattle.wiring_nets.proofs.FlatWires.next.Goals as goal

pub returns-then-net_wired : goal.returns-then-net_wired
returns-then-net_wired c = (c.tally_net.ensures, (sym c.net_wired.ensures ∙ c.if-net_wired.true, next_there _ _ _ _ c.next_net.ensures))
