use Rattle.std.proofs.Common.{rules}
use Rattle.wire_tables.specs.Ways.{smaller_far, smaller_own}
use Rattle.wire_tables.proofs.canonicalize.Goals as goal

pub returns-then-b-a : goal.returns-then-b-a
returns-then-b-a c = (search smaller_far, search rules)

pub returns : goal.returns
returns c = (search smaller_own, search rules)
