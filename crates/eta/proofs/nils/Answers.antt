use Rattle.eta.specs.Ways.{nils_both, nils_differ, nils_more_ports}
use Rattle.eta.proofs.nils.Goals as goal

pub returns-then-is_value : goal.returns-then-is_value
returns-then-is_value c = search nils_both

pub returns-then-arity-eq1 : goal.returns-then-arity-eq1
returns-then-arity-eq1 c = search nils_differ

pub returns : goal.returns
returns c = search nils_more_ports
