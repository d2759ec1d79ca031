use Rattle.lent.specs.Lent.{lent}
use Rattle.slicing.specs.Ways.{slice_room, slice_no_room}
use Rattle.slicing.specs.Slicing as Spec
use Rattle.slicing.proofs.slice.Goals as goal

pub returns-then-room : goal.returns-then-room
returns-then-room c = lent {x = Spec.slice _ _ _ _} (search slice_room)

pub returns : goal.returns
returns c = lent {x = Spec.slice _ _ _ _} (search slice_no_room)
