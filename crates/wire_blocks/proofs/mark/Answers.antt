use Rattle.wire_blocks.specs.Ways.{marked_both}
use Rattle.wire_blocks.proofs.mark.Goals as goal

pub returns : goal.returns
returns c = search marked_both
