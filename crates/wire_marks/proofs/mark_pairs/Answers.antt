use Rattle.wire_marks.specs.Marks.{pairs_all}
use Rattle.wire_marks.proofs.mark_pairs.Goals as goal

pub returns : goal.returns
returns c = search pairs_all
