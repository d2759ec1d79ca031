use Rattle.std.proofs.Common.{arith}
use Rattle.flat_nets.specs.Ways.{zero_filled}
use Rattle.flat_nets.proofs.zero_words.Goals as goal

pub returns : goal.returns
returns c = zero_filled c.args.from c.args.n _ _ _ _ (omega arith) (omega arith) (c.fill.ensures.after (λ y e. e))
