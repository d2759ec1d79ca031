use Rattle.std.proofs.Common.{rules}
use Rattle.definitions.specs.Text.{decimal}
use Rattle.text_writers.proofs.decimal.Goals as goal

pub returns : goal.returns
unfolding decimal
returns c = search rules
