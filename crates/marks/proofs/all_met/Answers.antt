use Rattle.std.proofs.Common.{arith, rules}
use Rattle.marks.specs.Marks.{met, all_met}
use Rattle.marks.specs.Ranges.{each_from}
use Rattle.marks.proofs.all_met.Goals as goal

pub returns : goal.returns
unfolding all_met
returns c = each_from (met c.args.marks.now) c.args.from c.args.k c.all.ensures.ran (omega arith) (λ x b q k. search rules)
