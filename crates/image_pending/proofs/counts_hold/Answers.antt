use Rattle.std.proofs.Common.{rules}
use Rattle.marks.specs.Ranges.{each_after}
use Rattle.image_pending.specs.Pending.{count_holds, counts_hold}
use Rattle.image_pending.proofs.counts_hold.Goals as goal

pub returns : goal.returns
unfolding counts_hold
returns c = each_after (count_holds c.args.ws.now c.args.tally.now) c.args.k c.all.ensures.ran (λ x b q k. search rules)
