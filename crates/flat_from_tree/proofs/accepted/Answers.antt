use Rattle.flat_from_tree.specs.Words.{answer_over, left_over, out_over, answer_full, left_full, out_full, answer_done, left_done, out_done}
use Rattle.flat_from_tree.proofs.accepted.Goals as goal

pub returns-then-t-gt65536 : goal.returns-then-t-gt65536
returns-then-t-gt65536 c = (search answer_over, search left_over, search out_over)

pub returns-then-out-t : goal.returns-then-out-t
returns-then-out-t c = (search answer_full, search left_full, search out_full)

pub returns : goal.returns
returns c = (search answer_done, search left_done, search out_done)
