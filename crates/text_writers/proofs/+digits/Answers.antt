use Rattle.std.proofs.Common.{[], arith}
use Rattle.text_writers.specs.Wrote.{digits_none, digits_last, digits_more}
use Rattle.text_writers.proofs.+digits.Goals as goal

pub returns-then-k-eq0 : goal.returns-then-k-eq0
returns-then-k-eq0 t c = digits_none _ _ _ _ [] (omega arith) (omega arith) (omega arith)

pub returns-then-n-lt10 : goal.returns-then-n-lt10
returns-then-n-lt10 t c = search digits_last

pub returns : goal.returns
returns t c = search digits_more
