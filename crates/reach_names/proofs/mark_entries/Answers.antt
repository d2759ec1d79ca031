use Rattle.std.proofs.Common.{arith}
use Rattle.reach_names.specs.Reach as spec
use Rattle.reach_names.specs.Steps.{met, entries_more, entries_done}
use Rattle.reach_names.proofs.mark_entries.Goals as goal

pub loop-e-preserved : goal.loop-e-preserved
loop-e-preserved c = (search entries_more, omega arith, omega arith)

pub returns : goal.returns
returns c = met (spec.mark_all _ _) (search entries_done)
