use Rattle.std.proofs.Common.{arith, rules}
use Rattle.marks.specs.Ranges.{each_below}
use Rattle.image_nets.specs.Nets.{name_holds, names_hold}
use Rattle.image_nets.proofs.names_hold.Goals as goal

pub returns : goal.returns
unfolding names_hold
returns c = each_below (name_holds c.args.ws.now) 1024 c.all.ensures.ran (omega arith) (λ x b q k. search rules)
