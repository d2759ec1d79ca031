use Rattle.wire_links.specs.Ways.{raised_not, raised_over}
use Rattle.wire_links.proofs.raise.Goals as goal

pub returns-then-x-t : goal.returns-then-x-t
returns-then-x-t c = search raised_not

pub returns : goal.returns
returns c = search raised_over
