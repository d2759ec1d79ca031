use Rattle.std.proofs.Common.{rules}
use Rattle.pair_writers.specs.Pairs.{kept_bit}
use Rattle.pair_writers.proofs.kept.Goals as goal

pub returns : goal.returns
unfolding kept_bit
returns c = search rules
