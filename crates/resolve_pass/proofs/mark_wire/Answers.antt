use Rattle.resolve_pass.specs.Ways.{mark_none, mark_some}
use Rattle.resolve_pass.proofs.mark_wire.Goals as goal

pub returns-then-v-eq0 : goal.returns-then-v-eq0
returns-then-v-eq0 c = search mark_none

pub returns : goal.returns
returns c = search mark_some
