use Rattle.std.proofs.Common.{arith, rules}
use Rattle.marks.specs.Ranges.{each_below}
use Rattle.image_dirty.specs.Dirty.{entry_holds, entries_hold}
use Rattle.image_dirty.proofs.entries_hold.Goals as goal

pub returns : goal.returns
unfolding entries_hold
returns c = each_below (entry_holds c.args.ws.now) c.args.k c.all.ensures.ran (omega arith) (λ x b q k. search rules)
