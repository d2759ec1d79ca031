use Rattle.eta.specs.Ways.{alike_ports, alike_not}
use Rattle.eta.proofs.alike.Goals as goal

pub returns-then-arity : goal.returns-then-arity
returns-then-arity c = search alike_ports

pub returns : goal.returns
returns c = search alike_not
