use Rattle.finishing.specs.Ways.{finish_room, finish_no_room}
use Rattle.finishing.specs.Finishing.{four}
use Rattle.finishing.specs.Finishing as Spec
use Rattle.finishing.proofs.finish.Goals as goal

pub returns-then-room : goal.returns-then-room
returns-then-room c = four {x = Spec.finish _ _ _ _} (search finish_room)

pub returns : goal.returns
returns c = four {x = Spec.finish _ _ _ _} (search finish_no_room)
