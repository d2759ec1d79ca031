use Rattle.readers.specs.Places.{names_after}
use Rattle.readers.proofs.name_count_at.Goals as goal

pub returns : goal.returns
returns c = search names_after
