use Rattle.text_writers.specs.Wrote.{number_is}
use Rattle.text_writers.proofs.number.Goals as goal

pub returns : goal.returns
returns c = search number_is
