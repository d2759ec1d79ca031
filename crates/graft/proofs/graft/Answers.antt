use Rattle.words.specs.Left.{left}
use Rattle.graft.specs.Ways.{lazy_meets, lazy_passes, eager}
use Rattle.graft.specs.Graft as Graft
use Rattle.graft.proofs.graft.Goals as goal

pub returns-then-is_principal : goal.returns-then-is_principal
returns-then-is_principal c = left {x = Graft.graft _ _ _ _ _} (search lazy_meets)

pub returns-then-lazy : goal.returns-then-lazy
returns-then-lazy c = left {x = Graft.graft _ _ _ _ _} (search lazy_passes)

pub returns : goal.returns
returns c = left {x = Graft.graft _ _ _ _ _} (search eager)
