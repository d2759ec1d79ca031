use Rattle.words.specs.Choose.{pick_false}
use Rattle.edits.specs.Edits.{went_dirty}
use Rattle.edits.specs.Ways.{dirty_tight}
use Rattle.edits.proofs.went_dirty.Goals as goal

pub returns-then-loose : goal.returns-then-loose
returns-then-loose c = search dirty_tight

pub returns-else-loose : goal.returns-else-loose
unfolding went_dirty
returns-else-loose c = pick_false _ _ _ (cc) (cc)
