use Rattle.waits.specs.Ways.{append_first, append_after}
use Rattle.waits.proofs.append_wait.Goals as goal

pub returns-then-p-eq0 : goal.returns-then-p-eq0
returns-then-p-eq0 c = search append_first

pub returns : goal.returns
returns c = search append_after
