use Rattle.eta.specs.Ways.{straight_wire, straight_nils}
use Rattle.eta.proofs.straight.Goals as goal

pub returns-then-eq : goal.returns-then-eq
returns-then-eq c = search straight_wire

pub returns : goal.returns
returns c = search straight_nils
