use Rattle.std.proofs.Common.{arith, rules}
use Rattle.marks.specs.Ranges.{each_below}
use Rattle.image_slots.specs.Slots.{slot_holds, all_hold}
use Rattle.image_slots.proofs.all_hold.Goals as goal

pub returns : goal.returns
unfolding all_hold
returns c =
    each_below (slot_holds c.args.ws.now c.args.file.now c.args.paths c.args.names) c.args.k c.all.ensures.ran (omega arith) (λ x b q k. search rules)
