use Rattle.resolve_net.specs.Ways.{links_on, links_deep}
use Rattle.resolve_net.specs.Renamed.{renamed_links}
use Rattle.resolve_walk.specs.Penned.{penned}
use Rattle.resolve_net.proofs.renamed_links.Goals as goal

pub returns : goal.returns
returns c = penned {x = renamed_links _ _ _ _ _ _ _} (search (links_on, c.in_ok-pen.was))

pub returns-in_err-pen : goal.returns-in_err-pen
returns-in_err-pen c = penned {x = renamed_links _ _ _ _ _ _ _} (rw c.from_residual.ensures (search (links_deep, c.in_err-pen.was)))
