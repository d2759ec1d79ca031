use Rattle.std.proofs.Common.{arith}
use Rattle.resolve_tree.specs.Words.{words_cleared}
use Rattle.resolve_tree.proofs.accepted.Goals as goal

pub returns : goal.returns
returns c =
    let r = c.resolved-r.ensures in
    (r.0, words_cleared _ _ c.resolved-r.new.ws _ c.clear_words.ensures (omega arith) c.resolved-r.auto.ws, r.2)
