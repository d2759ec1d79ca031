use Rattle.flat_nets.specs.Ways.{mark_one, mark_none}
use Rattle.flat_nets.proofs.mark.Goals as goal

pub returns-then-byte_on-eq1 : goal.returns-then-byte_on-eq1
returns-then-byte_on-eq1 c = search mark_one

pub returns : goal.returns
returns c = search mark_none
