use Rattle.reach_names.specs.Reach as spec
use Rattle.reach_names.specs.Steps.{met, visit_alone, visit_net}
use Rattle.reach_names.proofs.visit.Goals as goal

pub returns-then-a-eq0 : goal.returns-then-a-eq0
returns-then-a-eq0 c = met (spec.mark_all _ _) (search visit_alone)

pub returns : goal.returns
returns c = met (spec.mark_all _ _) (search visit_net)
