use Rattle.resolve_net.specs.Ways.{renamed_on, renamed_deep}
use Rattle.resolve_net.specs.Renamed.{renamed}
use Rattle.resolve_walk.specs.Penned.{penned}
use Rattle.resolve_net.proofs.renamed.Goals as goal

pub returns : goal.returns
returns c = penned {x = renamed _ _ _ _ _ _ _ _} (search (renamed_on, c.in_ok-pen.was))

pub returns-in_err-pen : goal.returns-in_err-pen
returns-in_err-pen c = penned {x = renamed _ _ _ _ _ _ _ _} (rw c.from_residual.ensures (search (renamed_deep, c.in_err-pen.was)))
