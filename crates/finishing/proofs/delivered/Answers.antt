use Rattle.lent.specs.Lent.{held_fits, held_part}
use Rattle.finishing.specs.Ways.{delivered_done, delivered_refused}
use Rattle.finishing.specs.Finishing.{four}
use Rattle.finishing.specs.Finishing as Spec
use Rattle.finishing.proofs.delivered.Goals as goal

pub slice_bounds-result-end : goal.slice_bounds-result-end
slice_bounds-result-end c = search held_fits

pub slice_bounds-result-end-2 : goal.slice_bounds-result-end-2
slice_bounds-result-end-2 c = search held_part

pub returns-in-Done : goal.returns-in-Done
returns-in-Done c = four {x = Spec.delivered _ _ _ _} (search delivered_done)

pub returns-in-Refused : goal.returns-in-Refused
returns-in-Refused c = four {x = Spec.delivered _ _ _ _} (search delivered_refused)
