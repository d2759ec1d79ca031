use Rattle.std.proofs.Common.{arith}
use Rattle.put.specs.Laws.{full}
use Rattle.net_writers.specs.Laws.{size_file, file_parts}
use Rattle.net_writers.proofs.put_file_head.Goals as goal

pub returns-then-out-lt9 : goal.returns-then-out-lt9
returns-then-out-lt9 c = full (size_file _ _ _) (omega arith)

pub returns : goal.returns
returns c = search file_parts
