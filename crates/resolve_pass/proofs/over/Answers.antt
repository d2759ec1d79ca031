use Rattle.resolve_pass.specs.Ways.{over_none, over_below, over_above}
use Rattle.resolve_pass.proofs.over.Goals as goal

pub returns-then-v-eq0 : goal.returns-then-v-eq0
returns-then-v-eq0 c = search over_none

pub returns-then-w-t : goal.returns-then-w-t
returns-then-w-t c = search over_below

pub returns : goal.returns
returns c = search over_above
