use Rattle.wire_places.specs.Places.{places_seen}
use Rattle.wire_places.proofs.mark_places.Goals as goal

pub returns : goal.returns
returns c = search places_seen
