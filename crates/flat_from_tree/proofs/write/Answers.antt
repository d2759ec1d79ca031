use Rattle.flat_from_tree.specs.Words.{place, first, count, whole_left, whole_out_lem}
use Rattle.flat_from_tree.proofs.write.Goals as goal

pub returns : goal.returns
unfolding place first count whole_left
returns c = (cc, search whole_out_lem)
