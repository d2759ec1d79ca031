use Rattle.wire_tables.specs.Ways.{far_none, far_some}
use Rattle.wire_tables.proofs.far.Goals as goal

pub returns-then-v-eq0 : goal.returns-then-v-eq0
returns-then-v-eq0 c = search far_none

pub returns : goal.returns
returns c = search far_some
