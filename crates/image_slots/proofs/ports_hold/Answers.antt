use Rattle.std.proofs.Common.{arith, rules}
use Rattle.marks.specs.Ranges.{each_from}
use Rattle.image_slots.specs.Slots.{port_holds, ports_hold}
use Rattle.image_slots.proofs.ports_hold.Goals as goal

pub returns : goal.returns
unfolding ports_hold
returns c = each_from (port_holds c.args.ws.now c.args.t.0) c.args.p c.args.k c.all.ensures.ran (omega arith) (λ x b q k. search rules)
