use Rattle.words.specs.Left.{left}
use Rattle.eta_values.specs.Values.{put_value}
use Rattle.eta_values.specs.Ways.{value_put, value_refused}
use Rattle.eta_values.proofs.put_value.Goals as goal

pub returns-in-At : goal.returns-in-At
returns-in-At c = left {x = put_value _ _ _ _} (search value_put)

pub returns-in-Refused : goal.returns-in-Refused
returns-in-Refused c = left {x = put_value _ _ _ _} (search value_refused)
