use Rattle.wire_links.specs.Ways.{join_one, join_two}
use Rattle.wire_links.proofs.join.Goals as goal

pub returns-then-x-y : goal.returns-then-x-y
returns-then-x-y c = search join_one

pub returns : goal.returns
returns c = search join_two
