use Rattle.std.proofs.Common.{arith, rules}
use Rattle.put.specs.Fields.{size_be}
use Rattle.put.specs.Laws.{full}
use Rattle.put.specs.Fields.{stored8}
use Rattle.put.proofs.put8.Goals as goal

pub returns-then-space-lt1 : goal.returns-then-space-lt1
returns-then-space-lt1 c = full (size_be _ _) (omega arith)

pub returns : goal.returns
returns c = stored8 _ _ _ (omega arith) (search rules)
