use Rattle.words.specs.Left.{left}
use Rattle.interactions.specs.Ways.{both_passed, both_acted, both_refused}
use Rattle.interactions.specs.Interactions.{apply_both}
use Rattle.interactions.proofs.apply_both.Goals as goal

pub returns-in-Passed : goal.returns-in-Passed
returns-in-Passed c = left {x = apply_both _ _ _ _ _} (search both_passed)

pub returns-in-Acted : goal.returns-in-Acted
returns-in-Acted c = left {x = apply_both _ _ _ _ _} (search both_acted)

pub returns-in-Refused : goal.returns-in-Refused
returns-in-Refused c = left {x = apply_both _ _ _ _ _} (search both_refused)
