use Rattle.pair_writers.specs.Pairs.{counted_pairs}
use Rattle.pair_writers.proofs.counted_pairs.Goals as goal

pub returns : goal.returns
returns c = search counted_pairs
