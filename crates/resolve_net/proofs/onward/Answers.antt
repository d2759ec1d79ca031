use Rattle.resolve_net.specs.Ways.{onward_on, onward_deep}
use Rattle.resolve_net.proofs.onward.Goals as goal

pub returns : goal.returns
returns c = search (onward_on, c.in_ok-pen.was)

pub returns-in_err-pen : goal.returns-in_err-pen
returns-in_err-pen c = rw c.from_residual.ensures (search (onward_deep, c.in_err-pen.was))
