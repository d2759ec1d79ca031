use Rattle.resolve_net.specs.Ways.{visit_link_on, visit_link_deep}
use Rattle.resolve_net.specs.Renamed.{visit_link}
use Rattle.resolve_walk.specs.Penned.{penned}
use Rattle.resolve_net.proofs.visit_link.Goals as goal

pub returns : goal.returns
returns c = penned {x = visit_link _ _ _ _ _} (search (visit_link_on, c.in_ok-pen.was))

pub returns-in_err-pen : goal.returns-in_err-pen
returns-in_err-pen c = penned {x = visit_link _ _ _ _ _} (rw c.from_residual.ensures (search (visit_link_deep, c.in_err-pen.was)))
