use Rattle.flat_from_tree.specs.Words.{place, first, count, total, total_left}
use Rattle.flat_from_tree.proofs.measure.Goals as goal

pub returns : goal.returns
unfolding place first count total total_left
returns c = (cc, cc)
