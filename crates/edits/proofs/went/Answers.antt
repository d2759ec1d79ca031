use Rattle.edits.specs.Ways.{went_tight, went_left}
use Rattle.edits.proofs.went.Goals as goal

pub returns-then-loose : goal.returns-then-loose
returns-then-loose c = search went_tight

pub returns-else-loose : goal.returns-else-loose
returns-else-loose c = search went_left
