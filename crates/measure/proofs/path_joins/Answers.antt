use Rattle.measure.specs.Ways.{joins_never, joins_absent}
use Rattle.measure.proofs.path_joins.Goals as goal

pub returns-then-get-eq0 : goal.returns-then-get-eq0
returns-then-get-eq0 c = search joins_never

pub returns : goal.returns
returns c = search joins_absent
