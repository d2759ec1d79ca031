use Rattle.words.specs.Left.{left}
use Rattle.commute.specs.Ways.{side_few, commute_spent, commute_acts}
use Rattle.commute.specs.Commute.{commute}
use Rattle.commute.proofs.commute.Goals as goal

pub returns-then-spent : goal.returns-then-spent
returns-then-spent c = left {x = commute _ _ _ _} (search commute_spent)

pub copy_both-requires : goal.copy_both-requires
copy_both-requires c = (search side_few, search side_few)

pub returns : goal.returns
returns c = left {x = commute _ _ _ _} (search commute_acts)
