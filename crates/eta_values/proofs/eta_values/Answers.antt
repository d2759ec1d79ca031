use Rattle.words.specs.Left.{left}
use Rattle.eta_values.specs.Values.{eta_values_words}
use Rattle.eta_values.specs.Ways.{eta_one_value, eta_mixed, eta_no_value}
use Rattle.eta_values.proofs.eta_values.Goals as goal

pub returns-then-all_values : goal.returns-then-all_values
returns-then-all_values c = left {x = eta_values_words _ _ _ _ _ _ _} (search eta_one_value)

pub returns-then-value : goal.returns-then-value
returns-then-value c = left {x = eta_values_words _ _ _ _ _ _ _} (search eta_mixed)

pub returns : goal.returns
returns c = left {x = eta_values_words _ _ _ _ _ _ _} (search eta_no_value)
