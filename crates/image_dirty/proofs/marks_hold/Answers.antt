use Rattle.std.proofs.Common.{arith, rules}
use Rattle.marks.specs.Ranges.{each_below}
use Rattle.image_dirty.specs.Dirty.{mark_holds, marks_hold}
use Rattle.image_dirty.proofs.marks_hold.Goals as goal

pub returns : goal.returns
unfolding marks_hold
returns c = each_below (mark_holds c.args.ws.now c.args.marks.now) c.args.k c.all.ensures.ran (omega arith) (λ x b q k. search rules)
