use Rattle.words.specs.Left.{left}
use Rattle.run_slice.specs.Ways.{live_passed, live_acted, live_refused}
use Rattle.run_slice.specs.Run.{live_turn}
use Rattle.run_slice.proofs.live_turn.Goals as goal

pub returns-in-Passed : goal.returns-in-Passed
returns-in-Passed c = left {x = live_turn _ _ _ _} (search live_passed)

pub returns-in-Acted : goal.returns-in-Acted
returns-in-Acted c = left {x = live_turn _ _ _ _} (search live_acted)

pub returns-in-Refused : goal.returns-in-Refused
returns-in-Refused c = left {x = live_turn _ _ _ _} (search live_refused)
