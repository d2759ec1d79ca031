use Rattle.ends.specs.Ends.{count_none, count_out, count_in}
use Rattle.ends.proofs.node_count_at.Goals as goal

pub returns-then-n-p-lt2 : goal.returns-then-n-p-lt2
returns-then-n-p-lt2 c = search count_none

pub returns-then-n-p : goal.returns-then-n-p
returns-then-n-p c = search count_out

pub returns : goal.returns
returns c = search count_in
