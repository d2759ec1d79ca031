use Rattle.finish.specs.Finish.{write_counts}
use Rattle.finish.proofs.write_counts.Goals as goal

pub returns : goal.returns
unfolding write_counts
returns c = (cc, cc)
