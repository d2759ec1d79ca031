use Rattle.std.proofs.Common.{arith}
use Rattle.listing.specs.Nets.{no_room, room}
use Rattle.listing.proofs.refused.Goals as goal

pub returns-then-out-n : goal.returns-then-out-n
returns-then-out-n c = search no_room

pub returns : goal.returns
returns c = room _ _ _ _ _ c.refusal-n.ensures _ _ (omega arith) (omega arith) c.refusal.ensures
