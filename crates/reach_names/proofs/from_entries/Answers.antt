use Rattle.reach_names.specs.Steps.{entries_closed}
use Rattle.reach_names.proofs.from_entries.Goals as goal

pub returns : goal.returns
returns c = search entries_closed
