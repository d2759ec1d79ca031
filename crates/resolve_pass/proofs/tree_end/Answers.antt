use Rattle.std.proofs.Common.{rules}
use Rattle.resolve_pass.specs.Pass.{tree_end}
use Rattle.resolve_pass.specs.Ways.{wire_end}
use Rattle.resolve_pass.proofs.tree_end.Goals as goal

pub returns-then-byte-eq0 : goal.returns-then-byte-eq0
returns-then-byte-eq0 c = search wire_end

pub returns : goal.returns
unfolding tree_end
returns c = search rules
