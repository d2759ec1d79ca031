use Rattle.wire_ends.specs.Ways.{own_wire, smaller_wire}
use Rattle.wire_ends.proofs.canonical.Goals as goal

pub returns-then-v-lt-PAIRED : goal.returns-then-v-lt-PAIRED
returns-then-v-lt-PAIRED c = search own_wire

pub returns : goal.returns
returns c = search smaller_wire
