use Rattle.image_lists.specs.Lists.{list_holds}
use Rattle.image_lists.specs.Ways.{list_walked}
use Rattle.words.specs.Left.{left}
use Rattle.image_lists.proofs.list_holds.Goals as goal

pub returns : goal.returns
returns c = left {x = list_holds _ _ _} (search list_walked)
