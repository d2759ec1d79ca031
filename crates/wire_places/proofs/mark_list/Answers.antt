use Rattle.wire_places.specs.Places.{list_seen}
use Rattle.wire_places.proofs.mark_list.Goals as goal

pub returns : goal.returns
returns c = search list_seen
