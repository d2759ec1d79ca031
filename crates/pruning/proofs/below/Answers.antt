use Rattle.std.proofs.Common.{rules}
use Rattle.pruning.specs.Ways.{entries_are}
use Rattle.pruning.proofs.below.Goals as goal

pub returns : goal.returns
returns c = entries_are _ _ _ (search rules)
