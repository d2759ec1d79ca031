use Rattle.std.proofs.Common.{arith}
use Rattle.clear.proofs.Filled.{filled_from}
use Rattle.clear.proofs.clear_words.Goals as goal

pub returns : goal.returns
returns c = filled_from _ c.args.k _ _ _ (omega arith) (omega arith) (c.fill.ensures.after (λ y e. e))
