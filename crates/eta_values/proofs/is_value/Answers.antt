use Rattle.eta_values.specs.Ways.{value_one_port, value_more_ports}
use Rattle.eta_values.proofs.is_value.Goals as goal

pub returns-then-arity-eq1 : goal.returns-then-arity-eq1
returns-then-arity-eq1 c = search value_one_port

pub returns : goal.returns
returns c = search value_more_ports
