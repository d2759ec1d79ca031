use Rattle.lent.specs.Lent.{lent, held_fits, held_part}
use Rattle.slicing.specs.Ways.{held_ran, held_refused}
use Rattle.slicing.specs.Slicing.{run_held}
use Rattle.slicing.proofs.run_held.Goals as goal

pub slice_bounds-slice-end : goal.slice_bounds-slice-end
slice_bounds-slice-end c = search held_fits

pub slice_bounds-slice-end-2 : goal.slice_bounds-slice-end-2
slice_bounds-slice-end-2 c = search held_part

pub returns-in-Rested : goal.returns-in-Rested
returns-in-Rested c = lent {x = run_held _ _ _ _} (search held_ran)

pub returns-in-Refused : goal.returns-in-Refused
returns-in-Refused c = lent {x = run_held _ _ _ _} (search held_refused)
