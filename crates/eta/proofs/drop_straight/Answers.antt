use Rattle.eta.specs.Ways.{drop_wire, drop_nils}
use Rattle.eta.proofs.drop_straight.Goals as goal

pub returns-then-eq : goal.returns-then-eq
returns-then-eq c = search drop_wire

pub returns : goal.returns
returns c = search drop_nils
