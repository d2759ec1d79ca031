use Rattle.reach_names.specs.Reach.{mark}
use Rattle.reach_names.specs.Steps.{met, mark_past, mark_full, mark_known, mark_new}
use Rattle.reach_names.proofs.mark.Goals as goal

pub returns-then-marks-i : goal.returns-then-marks-i
returns-then-marks-i c = met (mark _ _) (search mark_past)

pub returns-then-order-count : goal.returns-then-order-count
returns-then-order-count c = met (mark _ _) (search mark_full)

pub returns-then-marks-i-2 : goal.returns-then-marks-i-2
returns-then-marks-i-2 c = met (mark _ _) (search mark_known)

pub returns : goal.returns
returns c = met (mark _ _) (search mark_new)
